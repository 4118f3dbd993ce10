pub mod LineLists
pub mod Results
pub mod Sizes
pub mod Laws
pub mod Inner
