mod ReplicaLaws
mod StatementLaws
