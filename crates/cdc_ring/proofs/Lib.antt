pub mod Flying
pub mod Rising
pub mod Standing
