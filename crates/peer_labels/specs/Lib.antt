pub mod Bundles
pub mod Carrying
pub mod Requests
pub mod Inner
