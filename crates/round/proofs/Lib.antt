pub mod EarlierLaws
pub mod RoundLaws
