-- What node calls and events make of slots, modules and books: the laws that every theorem here cites.
pub mod SlotAfterCall
pub mod ModuleAfterEvent
pub mod BooksAfterEvent
pub mod FramesOfBooks
pub mod TicksCounted
pub mod AtStart
pub mod RecordsAreDeliveries
pub mod ListPlaces
