pub mod ServedAt
