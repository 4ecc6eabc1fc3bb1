use Rattle.std.proofs.{Common.{◌≡◌, ◌∙◌, string_bytes}, lemmas.Map.Text.btree_map_updates_text}
use Rattle.plan_reader.proofs.calls.put.Goals as goal

pub returns-clause-ok : goal.returns-clause-ok
returns-clause-ok c =
    let key : string_bytes c.in_ok-key.key ≡ c.args.name.now = c.in_ok-key.ensures.ok ∙ c.as_str.ensures in
    let updates = c.in_ok-insert.ensures.updates in
    let sets =
    btree_map_updates_text (string_bytes c.in_ok-key.key) c.args.places.now c.insert.new.self _ updates in
    rw key at sets
