pub mod RowText
pub mod Reruns
pub mod Laws
