-- The nodes of the examples.
use Rattle.ason_base.specs.declared.ids.NodeId.{NodeId}

unfoldable pub a : NodeId
a = record { 0 = 1 }

unfoldable pub b : NodeId
b = record { 0 = 2 }

unfoldable pub c : NodeId
c = record { 0 = 3 }
