-- The node, and what each event makes of it.

pub mod Node
