pub mod DataAsked
pub mod FetchAsked
pub mod Forwarding
