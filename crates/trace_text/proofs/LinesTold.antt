-- Lines that are written are read.
use Rattle.std.proofs.Common.{◌≡◌, ◌∙◌, ◌<◌, ◌^◌, ℕ, All, List, ◌∷◌, ◌++◌, Option, Some, None, codes, refl, ap, sym, arith, append_assoc}
use Rattle.std.specs.Fmt.{decimal}
use Rattle.ason_base.specs.{declared.commands.Command.Command, declared.commands.Event.Event, declared.commands.Event.TheVariants.{Deliver, Noise, Tick, Desk, Post}, declared.ids.NodeId.NodeId}
use Rattle.plan_reader.specs.{declared.lines.Line.Line, declared.plan.Plan.Plan}
use Rattle.table_text.specs.TableText.{node_name}
use Rattle.trace_text.specs.{CommandText.command_text, EntryForms.{deliver, deliver_of, entry_at, entry_behind, entry_of, entry_with, event_of, event_with, if_stamped, next_post, node_entry, noise, noise_of, post_entry, said_in, with_lines}, EntryLines.{bytes_text, event_text, node_text}, RoundTrip.{EveryLineIsRead, HasItsName, IsNodeNamed, Says}, Words.behind_word}
use Rattle.trace_text.proofs.{BytesTold.bytes_read, Decimals.{lacks_low, stamp_read}, NamesTold.{name_lacks, no_post}, TextsParted.{parted_there, same_bytes, word_read}}

-- Events of a node

deliver_read : (p : Plan) (n from : NodeId) (number : ℕ) → IsNodeNamed p from → number < 2 ^ 64 →
    event_of p n (event_text p (Deliver n from number)) ≡ Some (Deliver n from number)
deliver_read p n from number named small =
    let name = node_name p from in
    let args = name ++ 32 ∷ decimal number in
    ap (λ (t : List ℕ). event_of p n (codes "deliver " ++ t)) (append_assoc name (codes " ") (decimal number))
    ∙ (ap (λ (o : Option (List ℕ)). event_with p n o (behind_word (codes "noise ") (codes "deliver " ++ args)))
    (word_read (codes "deliver ") args)
    ∙ (ap (deliver_of p n) (parted_there 32 name (decimal number) (name_lacks 32 name (omega arith) named.name))
    ∙ (λ i. deliver n (named.found i) (stamp_read number small i))))

noise_read : (p : Plan) (n from : NodeId) (bytes : List ℕ) → IsNodeNamed p from → All (λ b. b < 256) bytes →
    event_of p n (event_text p (Noise n from bytes)) ≡ Some (Noise n from bytes)
noise_read p n from bytes named small =
    let name = node_name p from in
    let args = name ++ 32 ∷ bytes_text bytes in
    ap (λ (t : List ℕ). event_of p n (codes "noise " ++ t)) (append_assoc name (codes " ") (bytes_text bytes))
    ∙ (ap (λ (o : Option (List ℕ)). event_with p n None o) (word_read (codes "noise ") args)
    ∙ (ap (noise_of p n) (parted_there 32 name (bytes_text bytes) (name_lacks 32 name (omega arith) named.name))
    ∙ (λ i. noise n (named.found i) (bytes_read bytes small i))))

-- Entries

module _ (p : Plan) (lines : List Line) (stamp : ℕ) where
  node_read : (n : NodeId) (event : Event) → IsNodeNamed p n → event_of p n (event_text p event) ≡ Some event →
      entry_of p lines stamp (node_name p n ++ 32 ∷ event_text p event)
      ≡ Some (record { stamp = stamp; node = Some n; event = event }, lines)
  node_read n event named is =
      let name = node_name p n in
      let text = event_text p event in
      ap (entry_behind p lines stamp (name ++ 32 ∷ text)) (no_post name (32 ∷ text) named.name)
      ∙ (ap (λ (o : Option (List ℕ × List ℕ)). with_lines lines (node_entry p stamp o))
      (parted_there 32 name text (name_lacks 32 name (omega arith) named.name))
      ∙ (ap (λ (o : Option NodeId). with_lines lines (entry_with p stamp o text)) named.found
      ∙ ap (λ (o : Option Event). with_lines lines (entry_at stamp n o)) is))

  post_read : (c : Command) (left : List Line) → next_post lines ≡ Some (c, left) →
      entry_of p lines stamp (codes "-" ++ 32 ∷ event_text p (Post c))
      ≡ Some (record { stamp = stamp; node = None; event = Post c }, left)
  post_read c left is =
      let text = command_text p c in
      ap (entry_behind p lines stamp (codes "- post " ++ text)) (word_read (codes "- post ") text)
      ∙ (ap (post_entry p stamp text) is ∙ rw (same_bytes text) refl)

  entry_read : (node : Option NodeId) (event : Event) (left : List Line) → HasItsName p node →
      Says p lines node event left →
      entry_of p lines stamp (node_text p node ++ 32 ∷ event_text p event)
      ≡ Some (record { stamp = stamp; node = node; event = event }, left)
  entry_read (Some n) (Deliver to from number) left named (is, other, small, leaves) =
      node_read n (Deliver to from number) named
      (deliver_read p n from number other small ∙ λ i. Some (Deliver (sym is i) from number))
      ∙ (λ i. Some (record { stamp = stamp; node = Some n; event = Deliver to from number }, sym leaves i))
  entry_read (Some n) (Noise to from bytes) left named (is, other, small, leaves) =
      node_read n (Noise to from bytes) named
      (noise_read p n from bytes other small ∙ λ i. Some (Noise (sym is i) from bytes))
      ∙ (λ i. Some (record { stamp = stamp; node = Some n; event = Noise to from bytes }, sym leaves i))
  entry_read (Some n) (Tick m) left named (is, leaves) =
      node_read n (Tick m) named (λ i. Some (Tick (sym is i)))
      ∙ (λ i. Some (record { stamp = stamp; node = Some n; event = Tick m }, sym leaves i))
  entry_read (Some n) (Desk m) left named (is, leaves) =
      node_read n (Desk m) named (λ i. Some (Desk (sym is i)))
      ∙ (λ i. Some (record { stamp = stamp; node = Some n; event = Desk m }, sym leaves i))
  entry_read (Some n) (Post c) left named says = absurd says
  entry_read None (Deliver to from number) left named says = absurd says
  entry_read None (Noise to from bytes) left named says = absurd says
  entry_read None (Tick m) left named says = absurd says
  entry_read None (Desk m) left named says = absurd says
  entry_read None (Post c) left named says = post_read c left says.0

pub line_read : EveryLineIsRead
line_read p lines e left told =
    let text : List ℕ = node_text p e.node ++ 32 ∷ event_text p e.event in
    ap (said_in p lines) (parted_there 32 (decimal e.stamp) text (lacks_low 32 e.stamp (omega arith) told.stamp))
    ∙ (ap (if_stamped p lines text) (stamp_read e.stamp told.stamp)
    ∙ entry_read p lines e.stamp e.node e.event left told.node told.says)
