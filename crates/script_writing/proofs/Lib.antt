pub mod CallsRead
pub mod FiltersRead
pub mod ScriptRead
pub mod Shapes
pub mod StacksRead
pub mod Texts
pub mod ValuesRead
