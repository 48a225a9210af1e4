pub mod Fits
pub mod KeptLemmas
pub mod PagesLemmas
pub mod Sound
pub mod WriteLemmas
