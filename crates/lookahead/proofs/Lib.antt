pub mod Laws
mod ShortCut
