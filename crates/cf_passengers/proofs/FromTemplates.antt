-- What is kept is right as long as the code is unchanged, and what is issued by it is what would be decoded.
use Rattle.std.proofs.Common.{◌≡◌, ◌∙◌, ℕ, ◌<◌, ◌^◌, List, Option, Some, None, length, slice_index_or, slice_set, true, false, IsTrue, refl, ap, sym, subst, arith}
use Rattle.std.proofs.lemmas.List.{get_or_default, get_or_read_under}
use Rattle.std.proofs.lemmas.List.Elements.{All-set}
use Rattle.std.proofs.lemmas.Bool.Decides.{nat_tests}
use Rattle.std.proofs.lemmas.Grind.{get_or-set_at}
use Rattle.std.specs.List.{All}
use Rattle.mem_regions.specs.Memory.{Memory}
use Rattle.rv_inst.specs.declared.isa.Isa.{Isa}
use Rattle.rv_inst.specs.declared.instruction.Instr.{Instr}
use Rattle.rv_inst.specs.declared.classes.Class.{Class}
use Rattle.rv_inst.specs.declared.classes.Class.TheVariants.{Free}
use Rattle.rv_inst.specs.Operands.{class_of}
use Rattle.cf_bind.specs.declared.passenger.Guess.{Guess}
use Rattle.cf_semantics.specs.moves.Instructions.{Fetched, Got, Bad, fetched, kind_of}
use Rattle.cf_semantics.specs.state.Options.{is_some}
use Rattle.cf_semantics.specs.state.Passengers.{fresh, fresh_as, fresh_undone}
use Rattle.cf_passengers.specs.declared.templates.Template.{Template}
use Rattle.cf_passengers.specs.Templates.{AreTemplates, IsVacant, IsTemplate, has_template, kept_as, kept_for, no_template, place_at, template_of}

-- what is kept for one memory is right for each memory from which the same is fetched
pub templates-same : (isa : Isa) (m n : Memory) (places : List Template) → ((pc : ℕ) → fetched isa n pc ≡ fetched isa m pc) →
    AreTemplates isa m places → AreTemplates isa n places
unfolding AreTemplates
templates-same isa m n places same kept = λ k t below small. rw (same _) (kept k t below small)

-- if nothing is kept, all that is kept is right
pub templates-empty : (isa : Isa) (m : Memory) (places : List Template) → All IsVacant places → AreTemplates isa m places
unfolding AreTemplates
templates-empty isa m places empty = λ k t below small. absurd (omega arith)

-- the template of an address is kept with the rest
pub templates-with : (isa : Isa) (m : Memory) (places : List Template) (k pc : ℕ) (t : Template) → t.address ≡ pc → Some t ≡ kept_for pc (fetched isa m pc) →
    AreTemplates isa m places → AreTemplates isa m (slice_set places k t)
unfolding AreTemplates
templates-with isa m places k pc t e is kept =
    let P : ℕ → Type 0 = λ n. kept_for n (fetched isa m n) ≡ Some t in
    All-set (IsTemplate isa m) places k t (λ small. subst P (sym e) (sym is)) kept

-- what a template is, by the class of its instruction
record KeptOf (pc : ℕ) (c : Class) (i : Instr) (t : Template) : Type 0 where
  pub is : t ≡ template_of pc i
  pub class : (c ≡ Free) → ⊥

kept_of : (pc : ℕ) (c : Class) (i : Instr) (t : Template) → Some t ≡ kept_as c (template_of pc i) → KeptOf pc c i t
kept_of pc Free i t e = absurd (cc)
kept_of pc c i t e = record { is = cc; class = λ f. absurd (cc) }

-- the template of an address has this address, what was fetched there, and its registers
pub kept-address : (pc : ℕ) (f : Fetched) (t : Template) → Some t ≡ kept_for pc f → t.address ≡ pc
kept-address pc (Got i) t e = ap (λ (u : Template). u.address) (kept_of pc (class_of i) i t e).is
kept-address pc (Bad end) t e = absurd (cc)

pub kept-got : (pc : ℕ) (f : Fetched) (t : Template) → Some t ≡ kept_for pc f → f ≡ Got t.instr
kept-got pc (Got i) t e = ap (λ (u : Template). Got u.instr) (sym (kept_of pc (class_of i) i t e).is)
kept-got pc (Bad end) t e = absurd (cc)

pub kept-whole : (pc : ℕ) (f : Fetched) (t : Template) → Some t ≡ kept_for pc f → t ≡ template_of t.address t.instr
kept-whole pc (Got i) t e = subst (λ (u : Template). u ≡ template_of u.address u.instr) (sym (kept_of pc (class_of i) i t e).is) refl
kept-whole pc (Bad end) t e = absurd (cc)

-- what is issued for it is not done yet
undone : (c : Class) (cache : List (Option ℕ)) (i : Instr) (pc : ℕ) (g : Guess) → ((c ≡ Free) → ⊥) → fresh_as c cache i pc g ≡ fresh_undone cache i pc g
undone Free cache i pc g h = absurd (h refl)
undone c cache i pc g h = refl

pub kept-fresh : (pc : ℕ) (f : Fetched) (t : Template) (cache : List (Option ℕ)) (g : Guess) → Some t ≡ kept_for pc f →
    fresh cache f pc g ≡ fresh_undone cache t.instr pc g
unfolding fresh kind_of
kept-fresh pc (Got i) t cache g e =
    let of = kept_of pc (class_of i) i t e in
    undone (class_of i) cache i pc g of.class ∙ ap (λ (u : Template). fresh_undone cache u.instr pc g) (sym of.is)
kept-fresh pc (Bad end) t cache g e = absurd (cc)

-- each address has a place
within : (places : List Template) (pc : ℕ) → length places ≡ 4096 → place_at pc < length places
within places pc long = omega (arith, long)

-- the address is found where its template was put
pub template-put : (places : List Template) (pc : ℕ) (t : Template) → t.address ≡ pc → length places ≡ 4096 →
    IsTrue (has_template (slice_set places (place_at pc) t) pc)
unfolding has_template
template-put places pc t e long = let below = within places pc long in grind (arith, nat_tests, get_or-set_at)

-- the template that is read from the place of an address that has one is its template
pub template-found : (isa : Isa) (m : Memory) (places : List Template) (k pc : ℕ) (t : Template) → t ≡ slice_index_or places k t → k ≡ place_at pc →
    AreTemplates isa m places → IsTrue (has_template places pc) → length places ≡ 4096 → pc < 2 ^ 32 → Some t ≡ kept_for pc (fetched isa m pc)
unfolding AreTemplates has_template
template-found isa m places k pc t read place kept has long small =
    let below : k < length places = subst (λ (n : ℕ). n < length places) (sym place) (within places pc long) in
    let same : t ≡ slice_index_or places k no_template = get_or_read_under places k (length places) t no_template read below refl in
    let there : (slice_index_or places (place_at pc) no_template).address ≡ pc = grind (arith, nat_tests) in
    let e : t.address ≡ pc = ap (λ (u : Template). u.address) (same ∙ ap (λ (n : ℕ). slice_index_or places n no_template) place) ∙ there in
    let P : ℕ → Type 0 = λ n. Some t ≡ kept_for n (fetched isa m n) in
    let Q : Template → Type 0 = IsTemplate isa m in
    subst P e (sym (subst Q (sym read) (kept k t below) (rw e small)))

pub template-some : (isa : Isa) (m : Memory) (places : List Template) (pc : ℕ) → AreTemplates isa m places → has_template places pc ≡ true →
    length places ≡ 4096 → pc < 2 ^ 32 → is_some (kept_for pc (fetched isa m pc)) ≡ true
template-some isa m places pc kept has long small =
    let k = place_at pc in
    let t = slice_index_or places k no_template in
    let read : t ≡ slice_index_or places k t = get_or_default places k no_template t (within places pc long) in
    rw (← template-found isa m places k pc t read refl kept has long small) refl

-- there is no template if nothing is kept
pub template-none : (o : Option Template) → false ≡ is_some o → None ≡ o
template-none None e = refl
template-none (Some t) e = absurd (cc)

pub ruleset having = (template-some)
