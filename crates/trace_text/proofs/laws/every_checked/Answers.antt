use Rattle.std.proofs.Common.{true}
use Rattle.plan_reader.proofs.PostablePlans.{names_found}
use Rattle.trace_text.proofs.{NodesNamed.node_named, RunsTold.run_checked, ScriptsPosted.script_posts}
use Rattle.trace_text.proofs.laws.every_checked.Goals as goal

pub returns-clause-named : goal.returns-clause-named
returns-clause-named c bs p n spelled known = node_named p n (names_found true bs p spelled) known

pub returns-clause-posts : goal.returns-clause-posts
returns-clause-posts c = script_posts

pub returns-clause-run : goal.returns-clause-run
returns-clause-run c = run_checked c.every_record.ensures.runs
