-- What is fetched depends only on code, and what is loaded depends only on bytes, if the regions have the same bounds.
use Rattle.std.proofs.Common.{◌≡◌, ℕ, ◌-◌, List, [], ◌∷◌, Option, Some, Bool, true, false, Result, Err, refl, ap, ◌∙◌, cond}
use Rattle.std.specs.Prelude.{find, map, take, drop, if◌then◌else◌}
use Rattle.std.specs.Option.{option_map}
use Rattle.mem_regions.specs.Area.{Area}
use Rattle.mem_regions.specs.Memory.{Memory}
use Rattle.mem_regions.specs.Access.{Bounds, area_bounds, bounds_of, holds, is_aligned, permits_in}
use Rattle.mem_regions.specs.Bytes.{le_bytes}
use Rattle.mem_regions.specs.Writing.{area_with, first_changed, memory_with, overwritten, stored}
use Rattle.mem_regions.proofs.Kept.{break-stored}
use Rattle.mem_regions.specs.Ranges.{bytes_in, lies_in, load_at, number_found, range_of, writes_in}
use Rattle.mem_regions.specs.declared.access.MemErr.{MemErr}
use Rattle.mem_regions.specs.declared.access.MemErr.TheVariants.{Misaligned}
use Rattle.rv_inst.specs.declared.instruction.Instr.{Instr}
use Rattle.rv_inst.specs.declared.isa.Isa.{Isa}
use Rattle.rv_inst.specs.Accesses.{access_made, extended}
use Rattle.cf_semantics.specs.moves.Instructions.{answer_of, fetched, mem_after, number}
use Rattle.cf_semantics.specs.moves.Sites.{bytes_of, codes_of}
use Rattle.cf_semantics.specs.moves.Fetches.{Text, area_text, code_of}
use Rattle.theory_refinement.proofs.instructions.Fetches.{fetched_alike}

-- a text by its bounds and its code
abbrev text : Bounds → List ℕ → Text
text b code = record { base = b.base; size = b.size; exec = b.exec; code = code }

heads : {A : Type 0} → {a b : A} {xs ys : List A} → a ∷ xs ≡ b ∷ ys → (a ≡ b) × (xs ≡ ys)
heads e = (cc, cc)

texts_same : (xs ys : List Area) → map area_bounds xs ≡ map area_bounds ys → map (λ (a : Area). a.code) xs ≡ map (λ (a : Area). a.code) ys →
    map area_text xs ≡ map area_text ys
texts_same [] [] e f = refl
texts_same [] (y ∷ ys) e f = absurd (cc)
texts_same (x ∷ xs) [] e f = absurd (cc)
texts_same (x ∷ xs) (y ∷ ys) e f =
    let p = heads e in
    let q = heads f in
    both (ap (λ (b : Bounds). text b x.code) p.0 ∙ ap (text (area_bounds y)) q.0) (texts_same xs ys p.1 q.1)
  where
    both : {a b : Text} {us vs : List Text} → a ≡ b → us ≡ vs → a ∷ us ≡ b ∷ vs
    both e f = rw (e, f) refl

pub fetched_same : (isa : Isa) (m n : Memory) (pc : ℕ) → bounds_of m ≡ bounds_of n → codes_of m ≡ codes_of n → fetched isa m pc ≡ fetched isa n pc
fetched_same isa m n pc e f = fetched_alike isa m n pc (code m n e f)
  where
    code : (m n : Memory) → bounds_of m ≡ bounds_of n → codes_of m ≡ codes_of n → code_of m ≡ code_of n
    code m n e f = unfold bounds_of codes_of code_of in texts_same m.areas n.areas e f

-- the bytes of a range
range_in : ℕ → ℕ → Bounds → List ℕ → List ℕ
range_in addr len b bytes = take len (drop (addr - b.base) bytes)

find_same : (addr len : ℕ) (xs ys : List Area) → map area_bounds xs ≡ map area_bounds ys → map (λ (a : Area). a.bytes) xs ≡ map (λ (a : Area). a.bytes) ys →
    option_map (bytes_in addr len) (find (lies_in addr len) xs) ≡ option_map (bytes_in addr len) (find (lies_in addr len) ys)
unfolding range_in
find_same addr len [] [] e f = refl
find_same addr len [] (y ∷ ys) e f = absurd (cc)
find_same addr len (x ∷ xs) [] e f = absurd (cc)
find_same addr len (x ∷ xs) (y ∷ ys) e f =
    let p = heads e in
    let q = heads f in
    let here : bytes_in addr len x ≡ bytes_in addr len y = ap (λ (b : Bounds). range_in addr len b x.bytes) p.0 ∙ ap (range_in addr len (area_bounds y)) q.0 in
    go (lies_in addr len x) (lies_in addr len y) (ap (holds addr len) p.0) here (find_same addr len xs ys p.1 q.1)
  where
    go : (a b : Bool) → a ≡ b → bytes_in addr len x ≡ bytes_in addr len y → option_map (bytes_in addr len) (find (lies_in addr len) xs)
        ≡ option_map (bytes_in addr len) (find (lies_in addr len) ys) →
        option_map (bytes_in addr len) (cond a (Some x) (find (lies_in addr len) xs)) ≡ option_map (bytes_in addr len)
        (cond b (Some y) (find (lies_in addr len) ys))
    go true true e h k = ap Some h
    go false false e h k = k
    go true false e h k = absurd (cc)
    go false true e h k = absurd (cc)

load_same : (m n : Memory) (addr width : ℕ) → bounds_of m ≡ bounds_of n → bytes_of m ≡ bytes_of n → load_at m addr width ≡ load_at n addr width
unfolding load_at range_of bounds_of bytes_of
load_same m n addr width e f = ap (λ (o : Option (List ℕ)). if is_aligned addr width then number_found o else Err Misaligned)
    (find_same addr width m.areas n.areas e f)

pub answer_same : (i : Instr) (a b : ℕ) (m n : Memory) → bounds_of m ≡ bounds_of n → bytes_of m ≡ bytes_of n → answer_of i a b m ≡ answer_of i a b n
unfolding answer_of
answer_same i a b m n e f = ap (λ (r : Result ℕ MemErr). if (access_made i a b).write then 0 else extended i (number r))
    (load_same m n (access_made i a b).addr (access_made i a b).width e f)

-- regions of the same bounds, bytes and code are the same
area : Bounds → List ℕ → List ℕ → Area
area b bytes code = record { base = b.base; write = b.write; exec = b.exec; bytes = bytes; code = code }

areas_same : (xs ys : List Area) → map area_bounds xs ≡ map area_bounds ys → map (λ (a : Area). a.bytes) xs ≡ map (λ (a : Area). a.bytes) ys →
    map (λ (a : Area). a.code) xs ≡ map (λ (a : Area). a.code) ys → xs ≡ ys
unfolding area
areas_same [] [] e f g = refl
areas_same [] (y ∷ ys) e f g = absurd (cc)
areas_same (x ∷ xs) [] e f g = absurd (cc)
areas_same (x ∷ xs) (y ∷ ys) e f g =
    let p = heads e in
    let q = heads f in
    let r = heads g in
    both (ap (λ (b : Bounds). area b x.bytes x.code) p.0 ∙ ap (λ (l : List ℕ). area (area_bounds y) l x.code) q.0 ∙ ap (area (area_bounds y) y.bytes) r.0)
    (areas_same xs ys p.1 q.1 r.1)
  where
    both : {a b : Area} {us vs : List Area} → a ≡ b → us ≡ vs → a ∷ us ≡ b ∷ vs
    both e f = rw (e, f) refl

pub memory_same : (m n : Memory) → bounds_of m ≡ bounds_of n → bytes_of m ≡ bytes_of n → codes_of m ≡ codes_of n → m.program_break ≡ n.program_break → m ≡ n
unfolding bounds_of bytes_of codes_of
memory_same m n e f g h = both (areas_same m.areas n.areas e f g) h
  where
    memory : List Area → ℕ → Memory
    memory areas break = record { areas = areas; program_break = break }

    both : {as' bs : List Area} {a b : ℕ} → as' ≡ bs → a ≡ b → memory as' a ≡ memory bs b
    both e f = rw (e, f) refl

-- the bytes after a write
written_bytes : ℕ → List ℕ → Bounds → List ℕ → List ℕ
written_bytes addr w b bytes = overwritten bytes (addr - b.base) w

changed_same : (addr len : ℕ) (w : List ℕ) (xs ys : List Area) → map area_bounds xs ≡ map area_bounds ys →
    map (λ (a : Area). a.bytes) xs ≡ map (λ (a : Area). a.bytes) ys → map (λ (a : Area). a.bytes) (first_changed (writes_in addr len) (area_with addr w) xs)
    ≡ map (λ (a : Area). a.bytes) (first_changed (writes_in addr len) (area_with addr w) ys)
unfolding written_bytes
changed_same addr len w [] [] e f = refl
changed_same addr len w [] (y ∷ ys) e f = absurd (cc)
changed_same addr len w (x ∷ xs) [] e f = absurd (cc)
changed_same addr len w (x ∷ xs) (y ∷ ys) e f =
    let p = heads e in
    let q = heads f in
    let here : (area_with addr w x).bytes ≡ (area_with addr w y).bytes = ap (λ (b : Bounds). written_bytes addr w b x.bytes) p.0
    ∙ ap (written_bytes addr w (area_bounds y)) q.0 in
    go (writes_in addr len x) (writes_in addr len y) (ap (permits_in addr len true) p.0) here q.0 q.1 (changed_same addr len w xs ys p.1 q.1)
  where
    both : {a b : List ℕ} {us vs : List (List ℕ)} → a ≡ b → us ≡ vs → a ∷ us ≡ b ∷ vs
    both e f = rw (e, f) refl

    go : (a b : Bool) → a ≡ b → (area_with addr w x).bytes ≡ (area_with addr w y).bytes → x.bytes ≡ y.bytes →
        map (λ (a : Area). a.bytes) xs ≡ map (λ (a : Area). a.bytes) ys → map (λ (a : Area). a.bytes) (first_changed (writes_in addr len) (area_with addr w) xs)
        ≡ map (λ (a : Area). a.bytes) (first_changed (writes_in addr len) (area_with addr w) ys) →
        map (λ (a : Area). a.bytes) (if a then area_with addr w x ∷ xs else x ∷ first_changed (writes_in addr len) (area_with addr w) xs)
        ≡ map (λ (a : Area). a.bytes) (if b then area_with addr w y ∷ ys else y ∷ first_changed (writes_in addr len) (area_with addr w) ys)
    go true true e h k r s = both h r
    go false false e h k r s = both k s
    go true false e h k r s = absurd (cc)
    go false true e h k r s = absurd (cc)

stored_same : (m n : Memory) (addr width v : ℕ) → bounds_of m ≡ bounds_of n → bytes_of m ≡ bytes_of n →
    bytes_of (stored m addr width v) ≡ bytes_of (stored n addr width v)
unfolding stored memory_with bounds_of bytes_of
stored_same m n addr width v e f = go (is_aligned addr width)
  where
    go : (b : Bool) → map (λ (a : Area). a.bytes) (if b then
        record m { areas = first_changed (writes_in addr width) (area_with addr (le_bytes width v)) m.areas } else m).areas
        ≡ map (λ (a : Area). a.bytes) (if b then record n { areas = first_changed (writes_in addr width) (area_with addr (le_bytes width v)) n.areas } else
        n).areas
    go true = changed_same addr width (le_bytes width v) m.areas n.areas e f
    go false = f

-- the bytes after an access depend on the bytes before it, and the break is unchanged
pub after_same : (i : Instr) (a b : ℕ) (m n : Memory) → bounds_of m ≡ bounds_of n → bytes_of m ≡ bytes_of n →
    bytes_of (mem_after i a b m) ≡ bytes_of (mem_after i a b n)
unfolding mem_after
after_same i a b m n e f = go (access_made i a b).write
  where
    go : (w : Bool) → bytes_of (if w then stored m (access_made i a b).addr (access_made i a b).width (access_made i a b).value else m)
        ≡ bytes_of (if w then stored n (access_made i a b).addr (access_made i a b).width (access_made i a b).value else n)
    go true = stored_same m n (access_made i a b).addr (access_made i a b).width (access_made i a b).value e f
    go false = f

pub after_break : (i : Instr) (a b : ℕ) (m : Memory) → (mem_after i a b m).program_break ≡ m.program_break
unfolding mem_after
after_break i a b m = go (access_made i a b).write
  where
    go : (w : Bool) → (if w then stored m (access_made i a b).addr (access_made i a b).width (access_made i a b).value else m).program_break ≡ m.program_break
    go true = break-stored m (access_made i a b).addr (access_made i a b).width (access_made i a b).value
    go false = refl
