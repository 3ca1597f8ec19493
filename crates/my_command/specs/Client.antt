-- How a client's packets are written.
pub mod Packet
pub mod Replica
pub mod Statement
pub mod Transactions
