mod Following
mod HeldLabels
mod LabelLines
mod Saying
