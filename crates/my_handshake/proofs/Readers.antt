-- What a reader finds is what the relation of its packet says, a file for each packet.
pub mod GreetingLaws
pub mod SwitchLaws
