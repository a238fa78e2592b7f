-- Zero-delay links between nodes, as a matrix of all pairs of nodes.
pub mod Links
