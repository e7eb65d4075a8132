pub mod Entry
pub mod Drive
