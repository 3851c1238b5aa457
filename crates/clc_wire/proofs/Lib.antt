pub mod Places
pub mod HeaderBack
pub mod ProposalBack
pub mod OfferBack
pub mod RefusalBack
pub mod ReadsBack
pub mod SpelledLength
