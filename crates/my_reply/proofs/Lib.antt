mod Readers
mod ServerLaws
