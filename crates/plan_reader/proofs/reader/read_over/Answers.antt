use Rattle.std.proofs.Common.{◌≡◌, Err, codes, rules}
use Rattle.toml.specs.{Data.Data, View.view}
use Rattle.ason_base.specs.Network.{Network}
use Rattle.plan_reader.specs.{Entries.FailsAs, PlanTables.{elements_at, ticks_of, views}, Plans.{IsScriptOf, network_of}}
use Rattle.plan_reader.proofs.LinesRead.{script_faulty}
use Rattle.plan_reader.proofs.reader.read_over.Goals as goal

pub returns-in_err-script-clause-fault : goal.returns-in_err-script-clause-fault
returns-in_err-script-clause-fault c =
    let d : Data = view c.args.value.now in
    let t : Network = c.in_ok-topology.topology in
    let is_t : t ≡ network_of (ticks_of d) c.args.known c.args.links.now = search rules in
    let is_names : c.names.result.now ≡ c.args.known.names = search rules in
    let is_ds : views c.elements-lines.result.now ≡ elements_at (codes "script") d = search rules in
    let h : FailsAs c.from_residual-in_err-script.result
    (λ f. IsScriptOf c.args.two_way t c.names.result.now (views c.elements-lines.result.now) (Err f)) = search rules in
    script_faulty c.args.two_way d c.args.known c.args.links.now t c.names.result.now
    (views c.elements-lines.result.now)
    c.from_residual-in_err-script.result is_t is_names is_ds h
