pub mod DecisionsRead
