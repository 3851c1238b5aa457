pub mod Reading
pub mod Header
pub mod Proposal
pub mod Offer
pub mod Refusal
pub mod Clc
