-- From one step to sweeps: where each message or item that tells of a goal brings it nearer as it is taken, the goal is
-- reached in so many sweeps.
use Rattle.std.proofs.Common.{◌≡◌, ◌≤◌, ℕ, zero, suc, ◌+◌, List, [], ◌∷◌, ◌++◌, sym, subst, arith}
use Rattle.ason_base.specs.{Network.Network, declared.commands.DeskItem.DeskItem, declared.messages.Msg.Msg}
use Rattle.mesh_rules.specs.{declared.events.MeshEvent.MeshEvent, Events.{after, step}, Machine.Mesh}
use Rattle.mesh_laws.proofs.{alone.AloneRuns.after-append, soon.Swept.{Goes, GetsHandled, GetsTaken, Keeps, MovesUp, StandsIn, Turn, desk-turn, mail-turn, swept-desk, swept-mail}}
use Rattle.mesh_laws.specs.Sweeps.{AreSoMany, IsPartOf, IsSweep, handles_one, takes_one}

-- Good: what holds of each state and of the event that comes there. Done: the goal. Says j u d m: the message m from u to
-- d tells that the goal is j sweeps off once it is taken. Tells j n i: so does an item of the desk of n.
pub record Goal : Type 1 where
  pub Good : Mesh → MeshEvent → Type 0
  pub Done : Mesh → Type 0
  pub Says : ℕ → ℕ → ℕ → Msg → Type 0
  pub Tells : ℕ → ℕ → DeskItem → Type 0

-- at most k sweeps off, where a node lets so many sweeps pass before it takes what stands there
pub data Within (x : Goal) (waits : ℕ → ℕ) (k : ℕ) (s : Mesh) : Type 0 where
  IsDone : x.Done s → Within x waits k s
  ByMail : (j u d : ℕ) (m : Msg) (before : List Msg) → waits d + j ≤ k → x.Says j u d m →
      StandsIn (s.mail u d) m before → Within x waits k s
  ByDesk : (j n : ℕ) (i : DeskItem) (before : List DeskItem) → waits n + j ≤ k → x.Tells j n i →
      StandsIn (s.desks n) i before → Within x waits k s

-- at most k sweeps off, before a sweep
abbrev pub Soon : Goal → ℕ → Mesh → Type 0
Soon x k s = Within x (λ d. 1) k s

-- It is no farther off than that.
pub nearer : (x : Goal) (old new : ℕ → ℕ) (j k : ℕ) (s : Mesh) → ((v : ℕ) → new v + j ≤ old v + k) →
    Within x old j s → Within x new k s
nearer x old new j k s most (IsDone done) = IsDone done
nearer x old new j k s most (ByMail i u d m before less says stands) =
    ByMail i u d m before (let h = most d in omega (arith, h, less)) says stands
nearer x old new j k s most (ByDesk i n item before less tells stands) =
    ByDesk i n item before (let h = most n in omega (arith, h, less)) tells stands

-- What has to be shown of one event, where what a node u sends to d waits there for delay u d sweeps: what tells of the goal
-- brings it nearer as it is taken, and the goal stays reached.
pub record Nears (t : Network) (delay : ℕ → ℕ → ℕ) (x : Goal) : Type 0 where
  pub says : (s : Mesh) (e : MeshEvent) (j u d : ℕ) (m : Msg) → x.Good s e → x.Says j u d m → takes_one u d e ≡ 1 →
      StandsIn (s.mail u d) m [] → Within x (delay d) j (step t s e)
  pub tells : (s : Mesh) (e : MeshEvent) (j n : ℕ) (i : DeskItem) → x.Good s e → x.Tells j n i →
      handles_one n e ≡ 1 → StandsIn (s.desks n) i [] → Within x (delay n) j (step t s e)
  pub stays : (s : Mesh) (e : MeshEvent) → x.Good s e → x.Done s → x.Done (step t s e)

-- along these events
abbrev pub AllGood : Network → (Mesh → MeshEvent → Type 0) → Mesh → List MeshEvent → Type 0
AllGood t Good s [] = Unit {0}
AllGood t Good s (e ∷ es) = Good s e × AllGood t Good (step t s e) es

pub good-first : (t : Network) (Good : Mesh → MeshEvent → Type 0) (s : Mesh) (a b : List MeshEvent) →
    AllGood t Good s (a ++ b) → AllGood t Good s a
good-first t Good s [] b good = tt
good-first t Good s (e ∷ a) b good = (good.0, good-first t Good (step t s e) a b good.1)

pub good-later : (t : Network) (Good : Mesh → MeshEvent → Type 0) (s : Mesh) (a b : List MeshEvent) →
    AllGood t Good s (a ++ b) → AllGood t Good (after t s a) b
good-later t Good s [] b good = good
good-later t Good s (e ∷ a) b good = good-later t Good (step t s e) a b good.1

-- in such a sweep it gets nearer by one
abbrev pub Once : Network → Goal → (Mesh → List MeshEvent → Type 0) → Type 0
Once t x Sweep =
    (s : Mesh) (es : List MeshEvent) (k : ℕ) → Sweep s es → AllGood t x.Good s es → Within x (λ d. 0) k s →
    Soon x k (after t s es)

-- what a node waits is no more than what another waits and what goes there from that one
abbrev pub IsFair : (ℕ → ℕ → ℕ) → (ℕ → ℕ) → Type 0
IsFair delay waits = (u v : ℕ) → waits v ≤ waits u + delay u v

-- Over these events a node waits no longer than it did, or all that stands there is taken.
pub data Passes (delay : ℕ → ℕ → ℕ) (old new : ℕ → ℕ) (s : Mesh) (es : List MeshEvent) (d : ℕ) : Type 0 where
  StillWaits : new d ≤ old d → Passes delay old new s es d
  HasPart : IsPartOf s d es → ((v : ℕ) → new v ≤ old d + delay d v) → Passes delay old new s es d

module _ (t : Network) (delay : ℕ → ℕ → ℕ) (x : Goal) (nears : Nears t delay x) where
  -- over one event it gets no farther
  soon-step : (waits : ℕ → ℕ) → IsFair delay waits → (s : Mesh) (e : MeshEvent) (k : ℕ) → x.Good s e →
      Within x waits k s → Within x waits k (step t s e)
  soon-step waits fair s e k good (IsDone done) = IsDone (nears.stays s e good done)
  soon-step waits fair s e k good (ByMail j u d m before less says stands) = go (mail-turn t s e u d m before stands)
    where
      go : Turn (takes_one u d e) ((step t s e).mail u d) m before → Within x waits k (step t s e)
      go (Goes one none) =
          nearer x (delay d) waits j k (step t s e) (λ v. let h = fair d v in omega (arith, h, less))
          (nears.says s e j u d m good says one (subst (StandsIn (s.mail u d) m) none stands))
      go (MovesUp c cs is one up) = ByMail j u d m cs less says up
      go (Keeps none up) = ByMail j u d m before less says up
  soon-step waits fair s e k good (ByDesk j n i before less tells stands) = go (desk-turn t s e n i before stands)
    where
      go : Turn (handles_one n e) ((step t s e).desks n) i before → Within x waits k (step t s e)
      go (Goes one none) =
          nearer x (delay n) waits j k (step t s e) (λ v. let h = fair n v in omega (arith, h, less))
          (nears.tells s e j n i good tells one (subst (StandsIn (s.desks n) i) none stands))
      go (MovesUp c cs is one up) = ByDesk j n i cs less tells up
      go (Keeps none up) = ByDesk j n i before less tells up

  soon-along : (waits : ℕ → ℕ) → IsFair delay waits → (s : Mesh) (es : List MeshEvent) (k : ℕ) →
      AllGood t x.Good s es → Within x waits k s → Within x waits k (after t s es)
  soon-along waits fair s [] k good soon = soon
  soon-along waits fair s (e ∷ es) k good soon =
      soon-along waits fair (step t s e) es k good.1 (soon-step waits fair s e k good.0 soon)

  -- after these events and this one, at this node, which brings it to j, it is no farther off than k
  from-there : (new : ℕ → ℕ) → IsFair delay new → (s : Mesh) (first : List MeshEvent) (e : MeshEvent)
      (later es : List MeshEvent) (at j k : ℕ) → first ++ e ∷ later ≡ es → ((v : ℕ) → new v + j ≤ delay at v + k) →
      AllGood t x.Good s es → (x.Good (after t s first) e → Within x (delay at) j (step t (after t s first) e)) →
      Within x new k (after t s es)
  from-there new fair s first e later es at j k parts most good there =
      let whole : AllGood t x.Good s (first ++ e ∷ later) = subst (AllGood t x.Good s) (sym parts) good in
      let rest = good-later t x.Good s first (e ∷ later) whole in
      subst (λ z. Within x new k (after t s z)) parts
      (subst (Within x new k) (sym (after-append t s first (e ∷ later)))
      (soon-along new fair (step t (after t s first) e) later k rest.1
      (nearer x (delay at) new j k (step t (after t s first) e) most (there rest.0))))

  -- Over events in which all is taken at some nodes it is as near as what waits elsewhere.
  pub over-part : (old new : ℕ → ℕ) → IsFair delay new → (s : Mesh) (es : List MeshEvent) (k : ℕ) →
      AllGood t x.Good s es → ((j u d : ℕ) (m : Msg) → x.Says j u d m → Passes delay old new s es d) →
      ((j n : ℕ) (i : DeskItem) → x.Tells j n i → Passes delay old new s es n) → Within x old k s →
      Within x new k (after t s es)
  over-part old new fair s es k good mail desk (IsDone done) = soon-along new fair s es k good (IsDone done)
  over-part old new fair s es k good mail desk (ByMail j u d m before less says stands) = go (mail j u d m says)
    where
      go : Passes delay old new s es d → Within x new k (after t s es)
      go (StillWaits most) =
          soon-along new fair s es k good (ByMail j u d m before (omega (arith, most, less)) says stands)
      go (HasPart part most) =
          let is : GetsTaken t s es u d m = swept-mail t s es u d m before stands (part.mail u) in
          from-there new fair s is.first is.event is.later es d j k is.parts
          (λ v. let h = most v in omega (arith, h, less)) good
          (λ here. nears.says (after t s is.first) is.event j u d m here says is.takes is.waits)
  over-part old new fair s es k good mail desk (ByDesk j n i before less tells stands) = go (desk j n i tells)
    where
      go : Passes delay old new s es n → Within x new k (after t s es)
      go (StillWaits most) =
          soon-along new fair s es k good (ByDesk j n i before (omega (arith, most, less)) tells stands)
      go (HasPart part most) =
          let is : GetsHandled t s es n i = swept-desk t s es n i before stands part.desk in
          from-there new fair s is.first is.event is.later es n j k is.parts
          (λ v. let h = most v in omega (arith, h, less)) good
          (λ here. nears.tells (after t s is.first) is.event j n i here tells is.handles is.waits)

  done-along : (s : Mesh) (es : List MeshEvent) → AllGood t x.Good s es → x.Done s → x.Done (after t s es)
  done-along s [] good done = done
  done-along s (e ∷ es) good done = done-along (step t s e) es good.1 (nears.stays s e good.0 done)

  no-more : (s : Mesh) → Soon x 0 s → x.Done s
  no-more s (IsDone done) = done
  no-more s (ByMail j u d m before less says stands) = absurd (omega (arith, less))
  no-more s (ByDesk j n i before less tells stands) = absurd (omega (arith, less))

  -- Where each sweep brings it nearer by one, a goal is reached within k sweeps that was k sweeps off.
  pub reached : (Sweep : Mesh → List MeshEvent → Type 0) → Once t x Sweep → (k : ℕ) (s : Mesh) (es : List MeshEvent) →
      AreSoMany Sweep t k s es → AllGood t x.Good s es → Soon x k s → x.Done (after t s es)
  reached Sweep once zero s es sweeps good soon = done-along s es good (no-more s soon)
  reached Sweep once (suc k) s es (one, rest, parts, sweep, more) good soon =
      let whole : AllGood t x.Good s (one ++ rest) = subst (AllGood t x.Good s) (sym parts) good in
      let now : Within x (λ d. 0) k s = nearer x (λ d. 1) (λ d. 0) (suc k) k s (λ v. omega arith) soon in
      subst (λ z. x.Done (after t s z)) parts
      (subst x.Done (sym (after-append t s one rest))
      (reached Sweep once k (after t s one) rest more (good-later t x.Good s one rest whole)
      (once s one k sweep (good-first t x.Good s one rest whole) now)))

-- where all that is sent waits for the next sweep
abbrev pub to_the_next : ℕ → ℕ → ℕ
to_the_next = λ u d. 1

-- In a sweep it gets nearer by one.
pub swept-once : (t : Network) (x : Goal) → Nears t to_the_next x → Once t x IsSweep
swept-once t x nears s es k sweep good near =
    over-part t to_the_next x nears (λ d. 0) (λ d. 1) (λ u v. omega arith) s es k good (λ j u d m says. all d)
    (λ j n i tells. all n) near
  where
    all : (d : ℕ) → Passes to_the_next (λ d. 0) (λ d. 1) s es d
    all d = HasPart (record { mail = λ u. sweep.mail u d; desk = sweep.desks d }) (λ v. omega arith)
