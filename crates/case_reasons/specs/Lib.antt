pub mod Origins
pub mod LineReasons
pub mod Explanations
pub mod Laws
pub mod Inner
