pub mod PlainWords
pub mod TakenWords
pub mod PositionalLemmas
pub mod CountedWords
pub mod RefusedWords
pub mod ParsingLemmas
