pub mod OpenCases
