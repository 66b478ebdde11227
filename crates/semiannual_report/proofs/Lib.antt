mod Begun
mod CountLemmas
mod PushedLemmas
mod SheetLemmas
