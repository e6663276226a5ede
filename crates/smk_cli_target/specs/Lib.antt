pub mod Files
pub mod Ends
pub mod Generating
pub mod Refusing
pub mod Clauses
pub mod Headline
pub mod Thrift
