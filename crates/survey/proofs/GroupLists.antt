-- Groups with their links.
use Rattle.std.proofs.Common.{◌≡◌, ℕ, map, List, [], ◌∷◌, ◌++◌, refl, ap}
use Rattle.ason_base.specs.{declared.commands.Group.TheVariants.{Srlg, Link}, declared.network.LinkSpec.LinkSpec}
use Rattle.survey.specs.Groups.{with_links}

of-links : (links ks : List LinkSpec) →
    map (λ (l : LinkSpec). with_links links (Link l.id)) ks
    ≡ map (with_links links) (map (λ (l : LinkSpec). Link l.id) ks)
of-links links [] = refl
of-links links (k ∷ ks) = ap (λ t. with_links links (Link k.id) ∷ t) (of-links links ks)

-- each of both kinds with its links
pub of-both : (links ks : List LinkSpec) (numbers : List ℕ) →
    map (λ n. with_links links (Srlg n)) numbers ++ map (λ (l : LinkSpec). with_links links (Link l.id)) ks
    ≡ map (with_links links) (map Srlg numbers ++ map (λ (l : LinkSpec). Link l.id) ks)
of-both links ks [] = of-links links ks
of-both links ks (n ∷ numbers) = ap (λ t. with_links links (Srlg n) ∷ t) (of-both links ks numbers)
