-- Independent moves can be made in either order.
use Rattle.std.proofs.Common.{◌≡◌, None, Bool, true, false, refl, sym, ap, ◌∙◌, arith}
use Rattle.cf_layout.specs.Layout.{Plan}
use Rattle.cf_bind.specs.declared.moves.Move.{Move}
use Rattle.cf_bind.specs.declared.moves.Move.TheVariants.{Issue, Emit, Climb, Fall, Meet, Execute, Send, Launch, Slide, Access, Recover, Leave, Exit, Serve}
use Rattle.cf_semantics.specs.state.State.{State, Moment}
use Rattle.cf_semantics.specs.moves.Bars.{bar}
use Rattle.cf_semantics.specs.moves.Moves.{next}
use Rattle.cf_semantics.specs.moves.Sites.{AreAlike, AreIndependent, Failure, Site, reads, writes}
use Rattle.theory_confluence.proofs.sites.Effects.{Effect, effect, moved_applied}
use Rattle.theory_confluence.proofs.sites.Locals.{has_law}
use Rattle.theory_confluence.proofs.sites.Touches.{effects_swap, framed, made, touches, untouched}
use Rattle.std.proofs.lemmas.Bool.{or_parts}

pub turned_round : (l : Plan) (s : State) (a b : Move) → AreIndependent l s a b → AreIndependent l s b a
turned_round l s a b i = record { first = i.second; second = i.first }

-- a Serve counts as writing what every move reads
unfoldable pub is_serve : Move → Bool
is_serve Serve = true
is_serve _ = false

reads_failure : (l : Plan) (s : State) (mv : Move) → reads l s mv Failure ≡ true
reads_failure l s mv = grind arith

serve_writes : (l : Plan) (s : State) → writes l s Serve Failure ≡ true
serve_writes l s = refl

no_serve : (l : Plan) (s : State) (a b : Move) → AreIndependent l s a b → is_serve a ≡ false
unfolding is_serve
no_serve l s Serve b i = absurd (let z = (or_parts (reads l s b Failure) (writes l s b Failure) (i.first Failure (serve_writes l s))).0 in
    let y = reads_failure l s b in clash (sym y ∙ z))
  where
    clash : true ≡ false → ⊥
    clash e = cc
no_serve l s (Issue g) b i = refl
no_serve l s Emit b i = refl
no_serve l s (Climb j) b i = refl
no_serve l s (Fall j) b i = refl
no_serve l s (Meet j) b i = refl
no_serve l s (Execute j) b i = refl
no_serve l s (Send j) b i = refl
no_serve l s (Launch j) b i = refl
no_serve l s (Slide k c) b i = refl
no_serve l s Access b i = refl
no_serve l s (Recover j) b i = refl
no_serve l s Leave b i = refl
no_serve l s Exit b i = refl

pub next_made : (l : Plan) (m : Moment) (mv : Move) → is_serve mv ≡ false → next l m mv ≡ made (effect l m.state mv) m
unfolding next is_serve
next_made l m Serve e = absurd (cc)
next_made l m (Issue g) e = ap (λ (s : State). record m { state = s }) (moved_applied l m.state (Issue g))
next_made l m Emit e = ap (λ (s : State). record m { state = s }) (moved_applied l m.state Emit)
next_made l m (Climb i) e = ap (λ (s : State). record m { state = s }) (moved_applied l m.state (Climb i))
next_made l m (Fall i) e = ap (λ (s : State). record m { state = s }) (moved_applied l m.state (Fall i))
next_made l m (Meet i) e = ap (λ (s : State). record m { state = s }) (moved_applied l m.state (Meet i))
next_made l m (Execute i) e = ap (λ (s : State). record m { state = s }) (moved_applied l m.state (Execute i))
next_made l m (Send i) e = ap (λ (s : State). record m { state = s }) (moved_applied l m.state (Send i))
next_made l m (Launch i) e = ap (λ (s : State). record m { state = s }) (moved_applied l m.state (Launch i))
next_made l m (Slide k c) e = ap (λ (s : State). record m { state = s }) (moved_applied l m.state (Slide k c))
next_made l m Access e = ap (λ (s : State). record m { state = s }) (moved_applied l m.state Access)
next_made l m (Recover i) e = ap (λ (s : State). record m { state = s }) (moved_applied l m.state (Recover i))
next_made l m Leave e = ap (λ (s : State). record m { state = s }) (moved_applied l m.state Leave)
next_made l m Exit e = ap (λ (s : State). record m { state = s }) (moved_applied l m.state Exit)

-- a does not touch what b reads
not_touched : (l : Plan) (m : Moment) (a b : Move) → AreIndependent l m.state a b → bar l m.state a ≡ None → (x : Site) → reads l m.state b x ≡ true →
    touches (effect l m.state a) x ≡ false
not_touched l m a b i e x r = go (touches (effect l m.state a) x) refl
  where
    clash : true ≡ false → ⊥
    clash e = cc

    go : (t : Bool) → touches (effect l m.state a) x ≡ t → touches (effect l m.state a) x ≡ false
    go false t = t
    go true t =
        let w = (has_law l m a).within e x t in
        let z = (or_parts (reads l m.state b x) (writes l m.state b x) (i.first x w)).0 in
        absurd (clash (sym r ∙ z))

alike_after : (l : Plan) (m : Moment) (a b : Move) → AreIndependent l m.state a b → bar l m.state a ≡ None →
    AreAlike (reads l m.state b) m (made (effect l m.state a) m)
alike_after l m a b i e =
    record { sites = λ x r. sym (untouched (effect l m.state a) m x (not_touched l m a b i e x r)); frame = framed (effect l m.state a) m.state }

-- the other has the same bar before and after
pub bar_after : (l : Plan) (m : Moment) (a b : Move) → AreIndependent l m.state a b → bar l m.state a ≡ None → bar l m.state b ≡ bar l (next l m a).state b
bar_after l m a b i e = (has_law l m b).bar_by (made (effect l m.state a) m) (alike_after l m a b i e)
    ∙ ap (λ (k : Moment). bar l k.state b) (sym (next_made l m a (no_serve l m.state a b i)))

both_made : (l : Plan) (m : Moment) (a b : Move) → AreIndependent l m.state a b → bar l m.state a ≡ None → bar l m.state b ≡ None →
    next l (next l m a) b ≡ made (effect l m.state b) (made (effect l m.state a) m)
both_made l m a b i e f =
    let n = made (effect l m.state a) m in
    let same = (has_law l m b).effect_by n f (alike_after l m a b i e) in
    ap (λ (k : Moment). next l k b) (next_made l m a (no_serve l m.state a b i)) ∙ next_made l n b (no_serve l m.state b a (turned_round l m.state a b i))
    ∙ ap (λ (g : Effect). made g n) (sym same)

apart : (l : Plan) (m : Moment) (a b : Move) → AreIndependent l m.state a b → bar l m.state a ≡ None → bar l m.state b ≡ None → (x : Site) →
    touches (effect l m.state a) x ≡ true → touches (effect l m.state b) x ≡ false
apart l m a b i e f x t = go (touches (effect l m.state b) x) refl
  where
    clash : true ≡ false → ⊥
    clash e = cc

    go : (u : Bool) → touches (effect l m.state b) x ≡ u → touches (effect l m.state b) x ≡ false
    go false u = u
    go true u =
        let w = (has_law l m a).within e x t in
        let v = (has_law l m b).within f x u in
        let z = (or_parts (reads l m.state b x) (writes l m.state b x) (i.first x w)).1 in
        absurd (clash (sym v ∙ z))

pub same_moment : (l : Plan) (m : Moment) (a b : Move) → AreIndependent l m.state a b → bar l m.state a ≡ None → bar l m.state b ≡ None →
    next l (next l m a) b ≡ next l (next l m b) a
same_moment l m a b i e f =
    both_made l m a b i e f
    ∙ ap (λ (s : State). record m { state = s }) (effects_swap (effect l m.state b) (effect l m.state a) m.state (apart l m a b i e f))
    ∙ sym (both_made l m b a (turned_round l m.state a b i) f e)
