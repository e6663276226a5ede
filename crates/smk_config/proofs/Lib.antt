mod Keys
mod Members
