-- The line that tells a plan's first fault.
use Rattle.std.specs.{Prelude.{ℕ, List, ◌++◌, codes}, Fmt.decimal}
use Rattle.plan_reader.specs.{declared.faults.PlanEntry.PlanEntry, declared.faults.PlanFault.PlanFault, declared.faults.PlanKind.PlanKind}
use Rattle.plan_reader.specs.declared.faults.PlanEntry.TheVariants as entry
use Rattle.plan_reader.specs.declared.faults.PlanKind.TheVariants as kind

abbrev pub entry_text : PlanEntry → List ℕ
entry_text entry.Toml = codes "toml"
entry_text entry.Top = codes "top"
entry_text (entry.Node n) = codes "node " ++ decimal n
entry_text (entry.Link n) = codes "link " ++ decimal n
entry_text (entry.Script n) = codes "script " ++ decimal n

abbrev pub kind_word : PlanKind → List ℕ
kind_word kind.Syntax = codes "syntax"
kind_word kind.Key = codes "key"
kind_word kind.Missing = codes "missing"
kind_word kind.Kind = codes "kind"
kind_word kind.Count = codes "count"
kind_word kind.Range = codes "range"
kind_word kind.Name = codes "name"
kind_word kind.Order = codes "order"
kind_word kind.Twice = codes "twice"
kind_word kind.Ends = codes "ends"
kind_word kind.Words = codes "words"
kind_word kind.Node = codes "node"
kind_word kind.Same = codes "same"
kind_word kind.Call = codes "call"
kind_word kind.Route = codes "route"
kind_word kind.Backup = codes "backup"
kind_word kind.Group = codes "group"
kind_word kind.Channel = codes "channel"
kind_word kind.Hex = codes "hex"
kind_word kind.Spells = codes "spells"

-- `refused plan ENTRY KIND`
abbrev pub refused_text : PlanFault → List ℕ
refused_text f = codes "refused plan " ++ entry_text f.entry ++ codes " " ++ kind_word f.kind ++ codes "\n"
