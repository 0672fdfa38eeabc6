-- The desk program's limits (document 01), by which it keeps to fixed buffers.
use Rattle.std.specs.Prelude.{ℕ}

-- "N above 1,024, M above 4,096 [...] gives 12"
abbrev pub most_nodes_read : ℕ
most_nodes_read = 1024

abbrev pub most_arcs_read : ℕ
most_arcs_read = 4096
