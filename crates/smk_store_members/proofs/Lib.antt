pub mod Sets
pub mod Lists
pub mod Going
pub mod Listings
pub mod Under
pub mod Trees
