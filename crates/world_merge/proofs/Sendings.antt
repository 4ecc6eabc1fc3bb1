-- A frame that was sent with a lower stamp stands on its channel.
use Rattle.std.proofs.Common.{◌≡◌, ℕ, zero, suc, List, ◌++◌, sym, ap, ◌∙◌, subst}
use Rattle.std.specs.Prelude.{Some}
use Rattle.ason_base.specs.{declared.commands.Entry.Entry, Network.Network}
use Rattle.flood.specs.declared.frames.Content.{Content}
use Rattle.hop_reliable.proofs.Members.{get-append_left}
use Rattle.world_rules.specs.Worlds.{World, numbered_at, world_start}
use Rattle.world_merge.specs.{Deeds.{Deed, Took, alone, alone_from, sent_by, upto}, Histories.{Histories, IsGenuine, at}, Merges.Ascends}
use Rattle.world_merge.proofs.{Growing.{Grows, deeds-grow}, Splitting.{Above, SplitFits, AreDeedsWithin, Later, alone-more, later, part-above, within}}

pub numbered_more : (cs more : List Content) (k : ℕ) (x : Content) → numbered_at cs k ≡ Some x →
    numbered_at (cs ++ more) k ≡ Some x
numbered_more cs more zero x is = absurd (cc (is))
numbered_more cs more (suc k) x is = get-append_left cs more k x is

-- Where the next lines have at least this stamp, a frame that was sent with a lower one is there.
pub sent-before : (t : Network) (hists : Histories) (w : World) (before ahead : ℕ → List Deed) (m : List Entry)
    (n u : ℕ)
    (s k : ℕ) (x : Content) → SplitFits t hists w before ahead m → Ascends s m →
    IsGenuine t hists n (Took s (at u) k x) → numbered_at (w.channels u n) k ≡ Some x
sent-before t hists w before ahead m n u s k x f up real =
    ap (λ cs. numbered_at cs k) ((f.world u).channels n ∙ grown)
    ∙ numbered_more (sent_by t (at u) (upto real.0 (hists u)) n) more.more k x real.2
  where
    late : Later real.0 (ahead u)
    late = later real.0 s (at u) (ahead u) real.1 (subst (Above s) (f.lines u) (part-above s u m up))

    inside : AreDeedsWithin real.0 (before u) (ahead u)
    inside = within real.0 (before u) (ahead u) late

    whole : before u ≡ upto real.0 (hists u) ++ inside.rest
    whole = inside.whole ∙ ap (λ ds. upto real.0 ds ++ inside.rest) (sym (f.whole u))

    more : Grows (sent_by t (at u) (upto real.0 (hists u)) n)
        ((alone_from t (at u) (alone t (at u) (upto real.0 (hists u))) inside.rest).channels u n)
    more = deeds-grow t (at u) (alone t (at u) (upto real.0 (hists u))) inside.rest u n

    grown : (alone t (at u) (before u)).channels u n ≡ sent_by t (at u) (upto real.0 (hists u)) n ++ more.more
    grown =
        ap (λ ds. (alone t (at u) ds).channels u n) whole
        ∙ ap (λ (v : World). v.channels u n) (alone-more t (at u) (world_start t) (upto real.0 (hists u)) inside.rest)
        ∙ more.whole
