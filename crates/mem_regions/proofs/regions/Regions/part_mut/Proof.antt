-- A proof by hand, since no proof is generated for a slice that is borrowed in an `Option`: `is_writable` reads the
-- regions, and then nothing is borrowed, or the borrow of `writable` is passed on.
use Rattle.std.proofs.Common.{◌≡◌, ℕ, List, [], ◌∷◌, length, Bool, Some, None, IsTrue, refl, sym, ap, lit<, w32, MutBor}
use Rattle.std.proofs.raw_atomic.Walks.{proved}
use Rattle.std.proofs.mem.Facts.{says_two}
use Rattle.std.proofs.VecSteps.Element.{Some-of, none_of}
use seplogic.Ra.Ura.{Ura}
use base.Fraction.{full_share}
use base.Logic.{SProp, ent, sep, emp, id⊢, ex_e, snd∗}
use base.Fml.{Lft, GName, Share, ftrue, flft, fres}
use mir.Syntax.{named}
use mir.Val.{Val, vint, vptr, of_list}
use prog.Memory.{Memory}
use prog.Routine.{Routine}
use types.Logic.{Logic, sem}
use contract.Monad.{Fun, fact, fact_i}
use contract.Running.{tables}
use types.Kit.{‵, raw, ◌⊛◌, some, later, at_ret, ◌$◌, ◌∵◌, !, qed, by, move, keep, drop, use0, use1, use2, use3, split, split3, join, fsplit, fsplit3, fjoin, feq_l, pick, await, rewrite, suffices, frame, done}
use types.Tokens.{lft_new, lft_end}
use types.Match.{live}
use types.Part.{agg}
use types.Run.{enter, lit, un, addr, stop, no_more, and_then, first, branches, skips, exec, returns, returns_within}
use types.ByLocal.{alloc_all, pass_all, free_all, look_at, get, through, sets, lands_as, env}
use denote.Array.{Array}
use denote.Builtin.{u8, u32, bool}
use denote.Exit.{yes, no}
use denote.Follow.{follows, follows_by}
use denote.Laws.{Is, shows}
use denote.Plain.{uint_Makes, uint_vals, uint_Tells}
use denote.RattleType.{RattleType, owns}
use denote.Ref.{MutRef, mut_vals, mut_Tells}
use denote.Signature.{plain, mut_ref_to}
use denote.Slice.{MutSlice, slice_val, mut_slice_vals}
use denote.Steps.{nothing, owned, heard, only, peeks}
use denote.Triple.Call.{calls_at}
use denote.Triple.Clauses.{Clauses, Lasts, lasts, ensured}
use denote.Triple.Spec.{triple_of}
use denote.Triple.Table.{framed}
use denote.Triple.Walked.{Stays, walk_of, stay_dropped, Goes-dropped, Goes-spent_ref, ends_at}
use Rattle.std.specs.contracts.option.Option as OP
use Rattle.mem_regions.specs.Memory.{Memory as Held}
use Rattle.mem_regions.specs.Ranges.{can_write, writable_of}
use Rattle.mem_regions.specs.Writing.{memory_with}
use Rattle.mem_regions.specs.Lending.{lent_bytes}
use Rattle.mem_regions.specs.contracts.regions.Regions.{the_row as R}
use Rattle.mem_regions.specs.contracts.regions.Regions.part_mut as f
use Rattle.mem_regions.proofs.regions.Regions.part_mut.Statement.{statement}
use Rattle.mem_regions.proofs.regions.Regions.part_mut.Code as code
use Rattle.mem_regions.specs.contracts.regions.Regions.is_writable as g
use Rattle.mem_regions.proofs.regions.Regions.is_writable.Met as g-thm
use Rattle.mem_regions.specs.contracts.regions.Regions.writable as h
use Rattle.mem_regions.proofs.regions.Regions.writable.Met as h-thm
use Rattle.mem_regions.proofs.Lent.{cannot_write, can, off, Own, Shown, Kept, shows_out, comes_home}

abbrev stayed : Stays f.ended.signature.params f.ended.kept
stayed = (stay_dropped (mut_ref_to (0 ∷ []) tt (plain (λ _. R))) no, (stay_dropped (plain (λ _. u32)) yes, (stay_dropped (plain (λ _. u32)) yes, tt)))

module _ {M : Type 1} {𝓤 : Ura M} (𝓛 : Logic 𝓤) (at_mem : Memory → SProp 𝓤) (run : Routine →
    Fun 𝓤) (κ : Lft) (q : Share) (b o : ℕ) (γ : GName) (m : Held) (at len : ℕ) where
  open 𝓛 use {A}

  abbrev c : Clauses 𝓤 f.ended
  c = f.clauses 𝓛 at_mem run

  abbrev bound : (walk_of 𝓛 f.ended stayed c).Ghost
  bound = (
    (
      (κ, tt),
      (q, tt),
      tt,
      (record { ref_ptr = (b, o); ghost_name = γ; now = m }, (at, (len, tt))),
      (vptr b o ∷ [], (vint w32 at ∷ [], (vint w32 len ∷ [], tt))),
    ),
    tt,
  )

  abbrev Post : Val → SProp 𝓤
  Post = (walk_of 𝓛 f.ended stayed c).post bound

  abbrev Lent : RattleType
  Lent = MutSlice (named 0) κ u8

  leaves_none : lent_bytes None ≡ writable_of m at len → ent 𝓤 (sep 𝓤 (sem 𝓛 (Own 𝓛 κ q b o γ m)) (A.lft κ q)) (Post (live 0 (of_list [])))
  unfolding follows_by
  leaves_none e =
      qed 𝓛 (‵ (Own 𝓛 κ q b o γ m) ∷ ‵ (flft κ q) ∷ []) ∵ fsplit3 ! $ drop ! $ move ! (1 ∷ []) $ drop ! $
      use1 𝓛 (‵ (fres γ (R.coded.code m))) (𝓛.names.obs-res γ (R.coded.code m)) $ move ! (1 ∷ []) $
      use0 𝓛 (‵ ((OP.the_row Lent).own_val None (live 0 (of_list []) ∷ []))) (none_of 𝓛 Lent) $
      suffices ! _ (ends_at 𝓛 f.ended stayed c bound (live 0 (of_list [])) None (tt, (tt, (tt, tt))) (tt, (tt, (tt, tt)))) $
      nothing ! $ nothing ! $ fjoin ! $ nothing ! $ fjoin ! $ nothing ! $ fjoin ! $ join ! $ nothing ! $ move ! (2 ∷ 0
      ∷ []) $ join ! $ join ! $ frame ! $ says_two ! (e, tt) $ done !

  leaves_some : (r : MutBor (List ℕ)) → Some r.now ≡ writable_of m at len → length r.now ≡ len
      → ent 𝓤 (sep 𝓤 (sem 𝓛 (Lent.own_val r (mut_slice_vals r))) (sep 𝓤 (A.lft κ q) (sem 𝓛
      (follows R (Array u8 0) γ r.ghost_name (λ w. memory_with m at len w))))) (Post (live 1 (of_list (mut_slice_vals r))))
  unfolding follows_by
  leaves_some r e l =
      let v : Val = slice_val r.ref_ptr (length r.now) in
      qed 𝓛 (‵ (Lent.own_val r (v ∷ [])) ∷ ‵ (flft κ q) ∷ ‵ (follows R (Array u8 0) γ r.ghost_name (λ w. memory_with m at len w)) ∷ []) ∵
      use1 𝓛 (‵ ((OP.the_row Lent).own_val (Some r) (live 1 (of_list (v ∷ [])) ∷ []))) (Some-of 𝓛 Lent r v) $
      suffices ! _ (ends_at 𝓛 f.ended stayed c bound (live 1 (of_list (v ∷ []))) (Some r) (tt, (tt, (tt, tt))) (tt, (tt, (tt, tt)))) $
      nothing ! $ nothing ! $ fjoin ! $ nothing ! $ fjoin ! $ nothing ! $ fjoin ! $ join ! $ nothing ! $ move ! (2 ∷ 0
      ∷ []) $ join ! $ join ! $ frame ! $ says_two ! (e, l) $ done !

pub part_mut_spec : {M : Type 1} → statement M
part_mut_spec 𝓤 𝓛 𝓜 𝓡 wired =
    let c' = f.clauses 𝓛 𝓜.mem 𝓡.returns in let W = walk_of 𝓛 f.ended stayed c' in let 𝓣 = tables 𝓤 𝓛.H 𝓜 𝓡 𝓡.env in
    let word = Goes-dropped 𝓛 1 (plain (λ _. u32)) yes (λ κs x w. refl) in
    proved 𝓛 f.ended stayed c' 𝓜 𝓡 (Goes-spent_ref 𝓛 1 (0 ∷ []) tt (plain (λ _. R)), (word, (word, tt)))
    f.Key.name code.function (code.unfolded 𝓤 𝓛.H 𝓜 𝓡 wired)
    (λ κs. (mut_vals, (uint_vals w32, (uint_vals w32, tt)))) (λ κs. (mut_Tells (named 0) κs.0 R, (uint_Tells w32, (uint_Tells w32, tt))))
    (λ κs qs bounds a _ are.
    let κ = κs.0 in let q = qs.0 in let b = a.0.ref_ptr.0 in let o = a.0.ref_ptr.1 in let γ = a.0.ghost_name in let m = a.0.now in let at = a.1.0 in
    let len = a.1.1.0 in
    let vss : List Val × (List Val × (List Val × Unit {0})) = (vptr b o ∷ [], (vint w32 at ∷ [], (vint w32 len ∷ [], tt))) in
    let L = Lent 𝓛 𝓜.mem 𝓡.returns κ q b o γ m at len in
    let Out = Post 𝓛 𝓜.mem 𝓡.returns κ q b o γ m at len in
    qed 𝓛 (((‵ (flft κ q) ⊛ ‵ ftrue) ⊛ ‵ (owns (MutRef (named 0) κ R ∷ u32 ∷ u32 ∷ []) a vss)) ∷ ‵ ftrue ∷ []) ∵
    split ! $ split ! $ move ! (2 ∷ []) $ fsplit ! $ keep ! (0 ∷ 2 ∷ []) $
    enter ! _ _ _ _ _ $ alloc_all ! (λ l. pass_all ! refl ((tt, tt), ((tt, record { fits = are.1.0.1 }), ((tt, record { fits = are.1.1.0.1 }), tt))) $
    -- [self; the token of κ]
    sets ! (addr ! (through ! refl (stop !))) refl (tt, tt) $
    lft_new ! tt (λ α. move ! (1 ∷ 2 ∷ 0 ∷ []) $
    use3 𝓛 (later (‵ (Shown 𝓛 κ q b o γ m α) ⊛ ‵ (flft (α ∷ []) full_share) ⊛ ‵ (Kept 𝓛 κ q b o γ m α))) (shows_out 𝓛 κ q b o γ m α) $ await ! tt $ split3 ! $
    -- [the `&`; the token of α; what is kept]
    let G = triple_of 𝓛 g.signature (g.spec 𝓛 𝓜.mem 𝓡.returns) in
    let z : G.Ghost = (((α ∷ [], tt), (full_share, tt), tt, (record { ref_ptr = (b, o); now = m }, (at, (len, tt))), vss), tt) in
    nothing ! $ owned ! u32 _ (uint_Makes 𝓛 w32) len _ (refl, are.1.1.0.1) $ fjoin ! $ owned ! u32 _ (uint_Makes 𝓛 w32) at _
    (refl, are.1.0.1) $ fjoin ! $ move ! (1 ∷ 0 ∷ []) $ fjoin ! $
    nothing ! $ move ! (2 ∷ 0 ∷ []) $ join ! $ join ! $ nothing ! $ move ! (1 ∷ 0 ∷ []) $ use2 𝓛 (raw (G.pre z)) (id⊢ 𝓤 _) $
    calls_at ! (framed 𝓤 𝓛.H 𝓜 𝓣) G (g-thm.met 𝓤 𝓛 𝓜 𝓡 (code.calls-mem_regions::regions::Regions::is_writable 𝓡.env wired)) z
    (and_then ! (get ! refl) (and_then ! (get ! refl) (and_then ! (get ! refl) (no_more !)))) (λ v.
    use1 𝓛 (later (some (λ (t : Bool). ((‵ (flft (α ∷ []) full_share) ⊛ ‵ ftrue) ⊛ ‵ (bool.own_val t (v ∷ []))) ⊛ raw
    (ensured 𝓛 g.ended (g.clauses 𝓛 𝓜.mem 𝓡.returns) z.0.0 z.0.3 tt t)))) (id⊢ 𝓤 _) $ await ! tt $ pick ! (λ t.
    split ! $ move ! (1 ∷ []) $ use1 𝓛 (raw (fact 𝓤 (t ≡ can_write m at len))) (ex_e 𝓤 _ (λ ws. snd∗ 𝓤 (sem 𝓛 (lasts g.ended z.0.0 z.0.3 ws))
    (fact 𝓤 (t ≡ can_write m at len)))) $
    heard ! (t ≡ can_write m at len) (λ tested. split ! $ split ! $ lft_end ! tt $ move ! (2 ∷ []) $ feq_l ! (λ is_bool.
    lands_as ! (ap only is_bool) refl (tt, tt) $
    move ! (0 ∷ 2 ∷ []) $ use2 𝓛 (later (‵ (Own 𝓛 κ q b o γ m) ⊛ ‵ (flft κ q))) (comes_home 𝓛 κ q b o γ m α) $ await ! tt $ split ! $
    -- [self; the token of κ; nothing]
    sets ! (un ! (get ! refl) tt) refl (tt, tt) $
    first ! $ branches ! (get ! refl)
    (λ not_so. sets ! (agg ! (and_then ! (lit ! tt) (no_more !))) refl (tt, (record { fits = lit< tt }, tt)) $
    returns_within ! Out refl (look_at ! 0 refl) $ free_all ! refl $ keep ! (0 ∷ 1 ∷ []) $ by !
    (leaves_none 𝓛 𝓜.mem 𝓡.returns κ q b o γ m at len (sym (cannot_write m at len t tested (off t not_so)))))
    (λ so. skips ! $ exec ! 𝓣.C 𝓣.Λ (env code.Mir.locals l) code.Mir.t-5 (at_ret _ Out) $
    sets ! (addr ! (through ! refl (stop !))) refl (tt, tt) $
    let G' = triple_of 𝓛 h.signature (h.spec 𝓛 𝓜.mem 𝓡.returns) in
    let z' : G'.Ghost = (((κ, tt), (q, tt), tt, a, vss), tt) in
    nothing ! $ owned ! u32 _ (uint_Makes 𝓛 w32) len _ (refl, are.1.1.0.1) $ fjoin ! $ owned ! u32 _ (uint_Makes 𝓛 w32) at _
    (refl, are.1.0.1) $ fjoin ! $ move ! (1 ∷ 0 ∷ []) $ fjoin ! $
    nothing ! $ move ! (2 ∷ 0 ∷ []) $ join ! $ join ! $ use0 𝓛 (raw (fact 𝓤 (IsTrue (can_write m at len))))
    (fact_i 𝓤 (IsTrue (can_write m at len)) (emp 𝓤) (can m at len t tested so)) $ move ! (1 ∷ 0 ∷ []) $ use2 𝓛 (raw (G'.pre z')) (id⊢ 𝓤 _) $
    calls_at ! (framed 𝓤 𝓛.H 𝓜 𝓣) G' (h-thm.met 𝓤 𝓛 𝓜 𝓡 (code.calls-mem_regions::regions::Regions::writable 𝓡.env wired)) z'
    (and_then ! (get ! refl) (and_then ! (get ! refl) (and_then ! (get ! refl) (no_more !)))) (λ v'.
    use1 𝓛 (later (some (λ (r : MutBor (List ℕ)). ((‵ (flft κ q) ⊛ ‵ ftrue) ⊛ ‵ (L.own_val r (v' ∷ []))) ⊛ some
    (λ (ws : Lasts h.ended z'.0.0 z'.0.3). ‵ (lasts h.ended z'.0.0 z'.0.3 ws)
    ⊛ ‵ (follows R (Array u8 0) γ r.ghost_name (λ w. memory_with m at len w)) ⊛ raw (fact 𝓤 (Some r.now ≡ writable_of m at len)) ⊛ raw
    (fact 𝓤 (length r.now ≡ len)))))) (id⊢ 𝓤 _) $ await ! tt $ pick ! (λ r.
    split ! $ move ! (1 ∷ []) $ pick ! (λ ws. split ! $ drop ! $ split3 ! $ move ! (1 ∷ []) $ heard ! _ (λ e. move ! (1 ∷ []) $ heard ! _ (λ long.
    move ! (1 ∷ []) $ split ! $ split ! $ move ! (2 ∷ 0 ∷ 3 ∷ []) $
    -- [the borrow; the token of κ; the way back; nothing]
    peeks ! L (Is L) (shows 𝓛 L) r (v' ∷ []) (λ is. lands_as ! (ap only is.0.0) refl (tt, (tt, (record { fits = is.0.1.0 }, tt))) $
    rewrite ! 0 (λ (us : List Val). ‵ (L.own_val r us)) is.0.0 refl $
    sets ! (agg ! (and_then ! (lit ! tt) (and_then ! (get ! refl) (no_more !)))) refl
    (tt, (record { fits = lit< tt }, ((tt, (record { fits = is.0.1.0 }, tt)), tt))) $
    returns ! (look_at ! 0 refl) $ free_all ! refl $ keep ! (0 ∷ 1 ∷ 2 ∷ []) $ by ! (leaves_some 𝓛 𝓜.mem 𝓡.returns κ q b o γ m at len r e long)))))))))))))))
