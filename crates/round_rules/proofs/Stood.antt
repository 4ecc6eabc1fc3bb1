-- What a station takes where all that stands in its rings is known, and nothing more comes.
use Rattle.std.proofs.{Common.{◌≡◌, ◌+◌, List, [], ◌++◌, length, sym, ap, ◌∙◌, arith, append-nil, append_assoc}, lemmas.List.{append_cancel_left, length-append, nil_from_length}}
use mathlib.Core.List.{IsPrefix}
use Rattle.rtrb.specs.Ring.{known_items, received}
use Rattle.station_rings.specs.{declared.parcel.Parcel.Parcel, LinkStates.LinkState}
use Rattle.round_rules.specs.Moves.{HasMoved, IsDrained}
use Rattle.round_rules.proofs.{Draining.takes-same, Links.came-more}

-- The first turn takes all, the later ones nothing, and nothing waits.
pub record TakesWhatStood (a b c : LinkState) (f : HasMoved a b) (g : HasMoved b c) : Type 0 where
  pub first : f.takes ≡ a.early ++ known_items a.into
  pub later : g.takes ≡ []
  pub nothing : c.early ≡ []

-- Where nothing more came than was known, the first turn takes all that stood, and later ones nothing.
pub takes-what-stood : (a b c : LinkState) (f : HasMoved a b) (g : HasMoved b c) (gone : List Parcel) → IsDrained a b →
    received a.into ++ known_items a.into ≡ gone → IsPrefix (received c.into) gone → TakesWhatStood a b c f g
takes-what-stood a b c f g gone drained whole begun = record {
  first = all_first;
  later = nil_from_length g.takes (omega (arith, counts, few, many));
  nothing = nil_from_length c.early (omega (arith, counts, few, many));
}
  where
    more : List Parcel
    more = drained.1.0

    takes_is : f.takes ≡ (a.early ++ known_items a.into) ++ more
    takes_is = takes-same a b f drained.0 ∙ sym drained.1.1

    came_few : (f.came ++ g.came) ++ begun.0 ≡ known_items a.into
    came_few =
        append_cancel_left (received a.into) ((f.came ++ g.came) ++ begun.0) (known_items a.into)
        (sym (append_assoc (received a.into) (f.came ++ g.came) begun.0)
        ∙ ap (λ ps. ps ++ begun.0) (sym (append_assoc (received a.into) f.came g.came)
        ∙ ap (λ ps. ps ++ g.came) (sym (came-more a b f)) ∙ sym (came-more b c g))
        ∙ begun.1 ∙ sym whole)

    total : a.early ++ (f.came ++ g.came) ≡ f.takes ++ (g.takes ++ c.early)
    total =
        sym (append_assoc a.early f.came g.came) ∙ ap (λ ps. ps ++ g.came) f.taken
        ∙ append_assoc f.takes b.early g.came ∙ ap (λ ps. f.takes ++ ps) g.taken

    counts : length a.early + (length f.came + length g.came) ≡
        length f.takes + (length g.takes + length c.early)
    counts =
        ap (λ k. length a.early + k) (sym (length-append f.came g.came))
        ∙ sym (length-append a.early (f.came ++ g.came)) ∙ ap length total
        ∙ length-append f.takes (g.takes ++ c.early)
        ∙ ap (λ k. length f.takes + k) (length-append g.takes c.early)

    few : (length f.came + length g.came) + length begun.0 ≡ length (known_items a.into)
    few =
        ap (λ k. k + length begun.0) (sym (length-append f.came g.came))
        ∙ sym (length-append (f.came ++ g.came) begun.0) ∙ ap length came_few

    many : length f.takes ≡ (length a.early + length (known_items a.into)) + length more
    many =
        ap length takes_is ∙ length-append (a.early ++ known_items a.into) more
        ∙ ap (λ k. k + length more) (length-append a.early (known_items a.into))

    none : more ≡ []
    none = nil_from_length more (omega (arith, counts, few, many))

    all_first : f.takes ≡ a.early ++ known_items a.into
    all_first =
        takes_is ∙ ap (λ ps. (a.early ++ known_items a.into) ++ ps) none ∙ append-nil (a.early ++ known_items a.into)
