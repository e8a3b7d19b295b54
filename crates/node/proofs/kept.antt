-- What every reached node keeps, through every call.
pub mod LawfulSettings
pub mod EachSlot
pub mod EveryCall
