-- Every run refines the sequential machine, and of the lines of two runs one list is a prefix of the other.
use Rattle.std.proofs.Common.{◌≡◌, ℕ, zero, suc, ◌+◌, ◌-◌, ◌≤◌, List, ◌++◌, Option, Some, None, refl, sym, ap, ◌∙◌, arith, length, ◌⊎◌, inl, inr}
use Rattle.rv_inst.specs.declared.isa.Isa.{Isa}
use Rattle.rv_machine.specs.After.{after}
use Rattle.rv_machine.specs.Machine.{Machine}
use Rattle.cf_layout.specs.Layout.{Plan}
use Rattle.cf_bind.specs.declared.moves.Move.{Move}
use Rattle.cf_bind.specs.declared.passenger.End.{End}
use Rattle.cf_semantics.specs.claims.Ahead.{ported_count, served_count}
use Rattle.cf_semantics.specs.moves.Instructions.{Stops}
use Rattle.cf_semantics.specs.state.Layouts.{isa_of}
use Rattle.cf_semantics.specs.runs.Lines.{Line, lines, sequence}
use Rattle.cf_semantics.specs.claims.Refines.{IsPrefix, Refines, gained}
use Rattle.cf_semantics.specs.runs.Runs.{IsRun, run, start}
use Rattle.cf_semantics.specs.state.State.{Moment}
use Rattle.theory_refinement.proofs.invariant.Invariant.{HoldsAt}
use Rattle.theory_refinement.proofs.invariant.Suited.{Suits}
use Rattle.theory_refinement.proofs.claims.Ahead.{memory_ahead}
use Rattle.theory_refinement.proofs.instructions.Bases.{one_sequence}
use Rattle.theory_refinement.proofs.claims.Level.{drained_level}
use Rattle.theory_refinement.proofs.claims.Lines.{gained_is, lines_hold, prefix}
use Rattle.theory_refinement.proofs.claims.Output.{output_ahead}
use Rattle.theory_refinement.proofs.claims.Runs.{holds_after}

plus : (isa : Isa) (m : Machine) (n c : ℕ) (x : Machine) → c ≡ 0 → after isa m n ≡ Some x → after isa m (n + c) ≡ Some x
plus isa m n c x e a = let q : n + c ≡ n = omega arith in ap (after isa m) q ∙ a

-- if the invariant holds at a moment, what it shows is what the machine does
pub refined : (l : Plan) (x0 : Machine) (w : List Line) (m : Moment) (x : Machine) → Suits l → x0.hart.retired ≤ m.state.retired →
    w ≡ sequence (isa_of l) x0 (gained x0 m.state) → after (isa_of l) x0 (gained x0 m.state) ≡ Some x → (o : Option End) → m.state.ending ≡ o →
    HoldsAt l m.state m.rest m.output x o → Refines l x0 w m
refined l x0 w m x acc r n a None e h =
    let z = memory_ahead l x0 m.state x acc a h in
    record {
      at = x;
      rises = r;
      count = a;
      lines = n;
      regs = h.regs;
      ends = λ b f. absurd (let q = sym e ∙ f in cc);
      spoke = output_ahead l x0 m.state x a h;
      stored = record { at = z.0; count = z.1; mem = z.2 };
      level = λ b f. absurd (let q = sym e ∙ f in cc);
      level_drained = drained_level l m.state;
    }
refined l x0 w m x acc r n a (Some b) e h = record {
  at = x;
  rises = r;
  count = a;
  lines = n;
  regs = h.regs;
  ends = λ c f. let q : b ≡ c = same b c (sym e ∙ f) in h.stops ∙ ap Stops q;
  spoke = record { at = x; count = plus (isa_of l) x0 (gained x0 m.state) (served_count l m.state) x h.unserved a; rest = h.input; output = h.output };
  stored = record { at = x; count = plus (isa_of l) x0 (gained x0 m.state) (ported_count l m.state) x h.unported a; mem = h.mem };
  level = λ c f. (h.unserved, h.unported);
  level_drained = drained_level l m.state;
}
  where
    same : (a b : End) → Some a ≡ Some b → a ≡ b
    same a b e = cc

-- what every run shows from outside is what the sequential machine does
pub run_refines : (l : Plan) (x0 : Machine) (moves : List Move) → Suits l → length x0.hart.regs ≡ 32 → IsRun l (start l x0) moves →
    Refines l x0 (lines l (start l x0) moves) (run l (start l x0) moves)
run_refines l x0 moves acc w r =
    let m = run l (start l x0) moves in
    let h = holds_after l x0 moves acc w r in
    refined l x0 (lines l (start l x0) moves) m h.machine acc (let c = h.count in omega (arith, c)) (lines_hold l x0 moves acc w r)
    (ap (after (isa_of l) x0) (gained_is l x0 m h) ∙ h.after) m.state.ending refl h.stage

-- the longer of two
one_way : (isa : Isa) (x0 : Machine) (a b : ℕ) (u v : List Line) → u ≡ sequence isa x0 a → v ≡ sequence isa x0 b → a ≤ b → IsPrefix u v
one_way isa x0 a b u v e f n =
    let d : (b - a) + a ≡ b = omega arith in
    let q = prefix isa x0 a (b - a) in
    (q.0, f ∙ ap (sequence isa x0) (sym d) ∙ q.1 ∙ ap (λ (z : List Line). z ++ q.0) (sym e))

either_way : (a b : ℕ) → (a ≤ b) ⊎ (b ≤ a)
either_way zero b = inl (omega arith)
either_way (suc a) zero = inr (omega arith)
either_way (suc a) (suc b) = go (either_way a b)
  where
    go : (a ≤ b) ⊎ (b ≤ a) → (suc a ≤ suc b) ⊎ (suc b ≤ suc a)
    go (inl e) = inl (omega arith)
    go (inr e) = inr (omega arith)

-- of the lines of two runs, under any two layouts, one list is a prefix of the other
pub lines_prefix : (k l : Plan) (x0 : Machine) (moves others : List Move) → Suits k → Suits l → length x0.hart.regs ≡ 32 → IsRun k (start k x0) moves →
    IsRun l (start l x0) others → IsPrefix (lines k (start k x0) moves) (lines l (start l x0) others)
    ⊎ IsPrefix (lines l (start l x0) others) (lines k (start k x0) moves)
lines_prefix k l x0 moves others ak al w r q =
    let m = run k (start k x0) moves in
    let n = run l (start l x0) others in
    let hm = holds_after k x0 moves ak w r in
    let hn = holds_after l x0 others al w q in
    let s = one_sequence (isa_of k) (isa_of l) x0 (gained x0 m.state) (gained x0 n.state) hm.machine hn.machine (ap (after (isa_of k) x0) (gained_is k x0 m hm)
    ∙ hm.after) (ap (after (isa_of l) x0) (gained_is l x0 n hn) ∙ hn.after) in
    go s.0 (either_way (gained x0 m.state) (gained x0 n.state)) (lines_hold k x0 moves ak w r ∙ s.1) (lines_hold l x0 others al w q ∙ s.2)
  where
    go : (isa : Isa) {a b : ℕ} {u v : List Line} → (a ≤ b) ⊎ (b ≤ a) → u ≡ sequence isa x0 a → v ≡ sequence isa x0 b → IsPrefix u v ⊎ IsPrefix v u
    go isa {a} {b} {u} {v} (inl e) f g = inl (one_way isa x0 a b u v f g e)
    go isa {a} {b} {u} {v} (inr e) f g = inr (one_way isa x0 b a v u g f e)
