-- Which slots and nodes the fences are of: a fence sets its own place in the list of nodes and no other call sets any; and a call writes at most the
-- node of one slot, the one that was there if the slot is in use before and after.
-- Assumes nothing.
use Prim.Native.Nat.{ℕ}
use mathlib.Core.Path.{◌≡◌, refl, ap, sym, subst, ◌∙◌}
use mathlib.Core.Bool.{Bool, true, false, not}
use mathlib.Core.Logic.{◌↔◌, ◌⊎◌, inl, inr, ⊎_elim}
use mathlib.Core.List.{List}
use native.Mathlib.Omega.{arith}
use lib.ListN.{get_or, set}
use lib.Seq.{get_or-set_same, get_or-set_other, set-get_or}
use Rattle.common.specs.Choice.{when◌then◌else◌}
use Rattle.common.proofs.Choices.{either, same_or_not}
use Rattle.agent_request.specs.Request.{in_use, free_request}
use Rattle.board_slots.specs.Slots.{lowest_free}
use Rattle.board_call.specs.declared.Call.TheVariants.{Open, Step, Release, Show}
use Rattle.board_call.specs.declared.AnyCall.{AnyCall}
use Rattle.board_call.specs.declared.AnyCall.TheVariants.{Base, OpenAs, Fence, Care}
use Rattle.board_rules.specs.Board.{Done, slot_at, opened, stepped, released}
use Rattle.board_rules.specs.Care.{cared}
use Rattle.board_nodes.specs.Site.{Site, SiteDone, site_of, inner, node_at, fenced_at, shut_at, kept_node, refused_at, around, opens_shut, used_shut, played_at}
use Rattle.board_nodes.specs.Site.{opened_by, stepped_at, released_at, cared_at, fenced_by, shown_at}
use Rattle.history_promises.proofs.Counts.{clash}
use Rattle.history_nodes.specs.Promises.{FencedExactly, SlotKeepsItsNode}

abbrev is_fence : AnyCall → Bool
is_fence (Base c) = false
is_fence (OpenAs r m k) = false
is_fence (Fence k) = true
is_fence (Care i) = false

-- a call that is none leaves all fences
abbrev SameFences : Site → SiteDone → Type 0
SameFences t d = d.fenced ≡ t.fenced

pub fences_kept : (o : AnyCall) (t : Site) → is_fence o ≡ false → SameFences t (played_at o t)
unfolding opened_by stepped_at released_at cared_at shown_at
fences_kept (Base (Open r m)) t f = either (SameFences t) (opens_shut r m (fenced_at t 0) t.words) refl refl
fences_kept (Base (Step i)) t f = either (SameFences t) (used_shut i (slot_at (inner t) i) (shut_at t i)) refl refl
fences_kept (Base (Release i)) t f = either (SameFences t) (used_shut i (slot_at (inner t) i) (shut_at t i)) refl refl
fences_kept (Base (Show r)) t f = refl
fences_kept (OpenAs r m k) t f = either (SameFences t) (opens_shut r m (fenced_at t k) t.words) refl refl
fences_kept (Fence k) t f = clash true refl f
fences_kept (Care i) t f = either (SameFences t) (used_shut i (slot_at (inner t) i) (not (shut_at t i))) refl refl

abbrev Then : AnyCall → Site → ℕ → Type 0
Then o t k = (fenced_at (site_of (played_at o t)) k ≡ true) ↔ ((o ≡ Fence k) ⊎ (fenced_at t k ≡ true))

other_call : (o : AnyCall) (t : Site) (k : ℕ) → is_fence o ≡ false → Then o t k
other_call o t k f =
    let same = ap (λ (l : List Bool). get_or l k false) (fences_kept o t f) in
    ((λ h. inr (sym same ∙ h)), (λ w. ⊎_elim (λ q. clash (is_fence (Fence k)) refl (sym (ap is_fence q) ∙ f)) (λ h. same ∙ h) w))

pub fenced_exactly : FencedExactly
unfolding fenced_by
fenced_exactly (Base c) t k long small = other_call (Base c) t k refl
fenced_exactly (OpenAs r m j) t k long small = other_call (OpenAs r m j) t k refl
fenced_exactly (Care i) t k long small = other_call (Care i) t k refl
fenced_exactly (Fence j) t k long small = ⊎_elim here there (same_or_not k j)
  where
    node : {x y : ℕ} → Fence x ≡ Fence y → x ≡ y
    node q = cc

    here : k ≡ j → Then (Fence j) t k
    here e =
        let set_there : get_or (set t.fenced k true) k false ≡ true = get_or-set_same t.fenced k true false (omega (arith, long, small)) in
        ((λ h. inl (ap Fence (sym e))), (λ w. subst (λ (x : ℕ). get_or (set t.fenced x true) k false ≡ true) e set_there))

    there : (k ≡ j → ⊥) → Then (Fence j) t k
    there ne =
        let same : get_or (set t.fenced j true) k false ≡ get_or t.fenced k false = get_or-set_other t.fenced j k true false ne in
        ((λ h. inr (sym same ∙ h)), (λ w. ⊎_elim (λ q. absurd (ne (sym (node q)))) (λ h. same ∙ h) w))

-- a slot that is in use before and after keeps its node
module _ (t : Site) (i : ℕ) (before : in_use (slot_at (inner t) i) ≡ true) where
  abbrev Keeps : SiteDone → Type 0
  Keeps d = in_use (slot_at (inner (site_of d)) i) ≡ true → node_at (site_of d) i ≡ node_at t i

  kept : (x y : Bool) (k n : ℕ) → x ≡ true → y ≡ true → (when y then (when x then n else k) else (when x then 0 else n)) ≡ n
  kept x y k n p q = rw (p, q) refl

  around_keeps : (j k : ℕ) (d : Done) → Keeps (around t j k d)
  around_keeps j k d used = ⊎_elim here (λ ne. get_or-set_other t.nodes j i _ 0 ne) (same_or_not i j)
    where
      node : ℕ → ℕ
      node x = kept_node k (slot_at (inner t) x) (get_or d.slots x free_request) (node_at t x)

      own : node i ≡ node_at t i
      own = kept (in_use (slot_at (inner t) i)) (in_use (get_or d.slots i free_request)) k (node_at t i) before used

      here : i ≡ j → get_or (set t.nodes j (node j)) i 0 ≡ node_at t i
      here e =
          subst (λ (x : ℕ). get_or (set t.nodes x (node x)) i 0 ≡ node_at t i) e
          (ap (λ (n : ℕ). get_or (set t.nodes i n) i 0) own ∙ ap (λ (l : List ℕ). get_or l i 0) (set-get_or t.nodes i 0))

  behind_keeps : (n j k : ℕ) (d : Done) (x : Bool) → Keeps (when x then refused_at n t else around t j k d)
  behind_keeps n j k d x = either Keeps x (λ used. refl) (around_keeps j k d)

  call_keeps : (o : AnyCall) → Keeps (played_at o t)
  unfolding opened_by stepped_at released_at cared_at fenced_by shown_at
  call_keeps (Base (Open r m)) = behind_keeps 14 (lowest_free t.slots) 0 (opened r m (inner t)) (opens_shut r m (fenced_at t 0) t.words)
  call_keeps (Base (Step j)) = behind_keeps 15 j 0 (stepped j (inner t)) (used_shut j (slot_at (inner t) j) (shut_at t j))
  call_keeps (Base (Release j)) = behind_keeps 15 j 0 (released j (inner t)) (used_shut j (slot_at (inner t) j) (shut_at t j))
  call_keeps (Base (Show r)) = λ used. refl
  call_keeps (OpenAs r m k) = behind_keeps 14 (lowest_free t.slots) k (opened r m (inner t)) (opens_shut r m (fenced_at t k) t.words)
  call_keeps (Fence k) = λ used. refl
  call_keeps (Care j) = behind_keeps 16 j 0 (cared j (inner t)) (used_shut j (slot_at (inner t) j) (not (shut_at t j)))

pub slot_keeps_its_node : SlotKeepsItsNode
slot_keeps_its_node o t i before used = call_keeps t i before o used
