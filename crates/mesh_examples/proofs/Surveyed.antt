-- Three tables and their surveys: two calls whose backups share a label of link 5; the same with both working links in
-- one duct, SRLG 7, so that their backups have labels of their own; and one call without a backup.
use Rattle.std.proofs.Common.{◌≡◌, ℕ, true, false, List, [], ◌∷◌, refl}
use Rattle.std.specs.Prelude.{Option, Some, None}
use Rattle.ason_base.specs.{Network.Network, declared.calls.CallRow.CallRow, declared.calls.CallState.CallState, declared.calls.CallState.TheVariants.{Bare, Guarded}, declared.calls.Cause.TheVariants.Unset, declared.calls.LegRow.LegRow, declared.calls.Phase.Phase, declared.calls.Phase.TheVariants.{Held, Live}, declared.calls.Role.Role, declared.calls.Role.TheVariants.{Back, Work}, declared.commands.Group.Group, declared.commands.Group.TheVariants.{Link, Srlg}, declared.ids.CallNo.CallNo, declared.ids.LinkId.LinkId, declared.ids.Lsp.Lsp}
use Rattle.mesh_laws.specs.{Survey.{contends_of, hits_of}, declared.survey.Hit.Hit}
use Rattle.mesh_examples.proofs.Scene.{call, link_spec, link, lsp, node, row_of_leg as leg_row, spec}

-- a call's row, with its working LSP and its backup
abbrev row : ℕ → ℕ → ℕ → CallState → Option Lsp → CallRow
row number from to state back = record {
  call = call number;
  ingress = node from;
  egress = node to;
  state = state;
  work = Some (lsp from 1 1);
  back = back;
  cause = Unset;
}

-- a leg's row: its LSP, the node, and link and label in and out
abbrev shows : Lsp → ℕ → Role → Phase → Option LinkId → Option ℕ → Option LinkId → Option ℕ → LegRow
shows l n role phase in_link in_label out_link out_label =
    leg_row l role n phase in_link in_label out_link out_label None None

abbrev hit : Group → List CallNo → List CallNo → Hit
hit g guarded bare = record { group = g; guarded = guarded; bare = bare }

-- Two calls, from node 1 over link 1 and from node 2 over link 2 to node 4, with backups by node 3. The working links
-- have these SRLGs, and the second backup has this label.
abbrev pub network : List ℕ → Network
network srlgs = record {
  wait = 0;
  nodes = spec 1 false ∷ spec 2 false ∷ spec 3 false ∷ spec 4 false ∷ [];
  links = link_spec 1 1 4 2 srlgs ∷ link_spec 2 2 4 2 srlgs ∷ link_spec 3 1 3 2 [] ∷ link_spec 4 2 3 2 [] ∷ link_spec 5
      3 4 2 [] ∷ [];
}

abbrev calls : List CallRow
calls = row 1 1 4 Guarded (Some (lsp 1 1 2)) ∷ row 2 2 4 Guarded (Some (lsp 2 1 2)) ∷ []

abbrev legs : ℕ → List LegRow
legs x =
    shows (lsp 1 1 1) 1 Work Live None None (Some (link 1)) (Some 1)
    ∷ shows (lsp 1 1 1) 4 Work Live (Some (link 1)) (Some 1) None None
    ∷ shows (lsp 1 1 2) 1 Back Held None None (Some (link 3)) (Some 1)
    ∷ shows (lsp 1 1 2) 3 Back Held (Some (link 3)) (Some 1) (Some (link 5)) (Some 1)
    ∷ shows (lsp 1 1 2) 4 Back Held (Some (link 5)) (Some 1) None None
    ∷ shows (lsp 2 1 1) 2 Work Live None None (Some (link 2)) (Some 1)
    ∷ shows (lsp 2 1 1) 4 Work Live (Some (link 2)) (Some 1) None None
    ∷ shows (lsp 2 1 2) 2 Back Held None None (Some (link 4)) (Some x)
    ∷ shows (lsp 2 1 2) 3 Back Held (Some (link 4)) (Some x) (Some (link 5)) (Some x)
    ∷ shows (lsp 2 1 2) 4 Back Held (Some (link 5)) (Some x) None None
    ∷ []

-- a label that both backups have: the calls contend where links 1 and 2 fail
shared : contends_of (network []) calls (legs 1) ≡ record {
  first = Link (link 1);
  second = Link (link 2);
  fibre = record { link = link 5; forward = true };
  label = 1;
  one = call 1;
  two = call 2;
} ∷ []
shared = refl

shared_hits : hits_of (network []) calls (legs 1)
    ≡ hit (Link (link 1)) (call 1 ∷ []) [] ∷ hit (Link (link 2)) (call 2 ∷ []) [] ∷ []
shared_hits = refl

-- one duct hits both, and nobody would contend
apart : contends_of (network (7 ∷ [])) calls (legs 2) ≡ []
apart = refl

apart_hits : hits_of (network (7 ∷ [])) calls (legs 2)
    ≡ hit (Srlg 7) (call 1 ∷ call 2 ∷ []) []
    ∷ hit (Link (link 1)) (call 1 ∷ []) []
    ∷ hit (Link (link 2)) (call 2 ∷ []) []
    ∷ []
apart_hits = refl

-- a call over one link
abbrev alone : Network
alone = record { wait = 0; nodes = spec 1 false ∷ spec 2 false ∷ []; links = link_spec 1 1 2 2 [] ∷ [] }

alone_hits : hits_of alone (row 1 1 2 Bare None ∷ []) (
    shows (lsp 1 1 1) 1 Work Live None None (Some (link 1)) (Some 1)
    ∷ shows (lsp 1 1 1) 2 Work Live (Some (link 1)) (Some 1) None None
    ∷ []
    )
    ≡ hit (Link (link 1)) [] (call 1 ∷ []) ∷ []
alone_hits = refl
