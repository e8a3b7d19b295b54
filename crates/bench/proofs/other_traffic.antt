-- OTHER TRAFFIC: what concerns other streams moves no delivery of a stream.
pub mod SameNextFrame
pub mod EventConcerns
pub mod ModulesAlike
pub mod OtherTraffic
