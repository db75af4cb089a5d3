pub mod IdealsAt
