-- What a node keeps in its tables.
pub use Rattle.leg_table.specs.LegTables.{LegTable, begins_here, new_table}
pub use Rattle.leg_table.specs.CallTables.{CallTable}
