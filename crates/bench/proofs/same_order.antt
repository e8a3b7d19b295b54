-- SAME ORDER: receivers deliver messages whose data was full in the same order.
pub mod LogOrder
pub mod DeliveryTicks
pub mod SameOrder
