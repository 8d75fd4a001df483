-- A change in the middle of the column, for any walk.
use Rattle.std.proofs.Common.{◌≡◌, List, [], ◌∷◌, ◌++◌, refl, sym, subst}
use Rattle.cf_semantics.specs.state.Column.{Item}
use Rattle.cf_semantics.specs.claims.Walks.{Everywhere, walk}

pub walk_append : {W : Type 0} (past : Item → W → W) (xs ys : List Item) (w : W) → walk past (xs ++ ys) w ≡ walk past ys (walk past xs w)
walk_append past [] ys w = refl
walk_append past (x ∷ xs) ys w = walk_append past xs ys (past x w)

module _ (W : Type 0) (Fits : Item → W → Type 0) (past : Item → W → W) where
  pub fit_append : (xs ys : List Item) (w : W) → Everywhere Fits past xs w → Everywhere Fits past ys (walk past xs w) → Everywhere Fits past (xs ++ ys) w
  fit_append [] ys w a b = b
  fit_append (x ∷ xs) ys w a b = (a.0, fit_append xs ys (past x w) a.1 b)

  pub fit_front : (xs ys : List Item) (w : W) → Everywhere Fits past (xs ++ ys) w → Everywhere Fits past xs w
  fit_front [] ys w a = tt
  fit_front (x ∷ xs) ys w a = (a.0, fit_front xs ys (past x w) a.1)

  pub fit_back : (xs ys : List Item) (w : W) → Everywhere Fits past (xs ++ ys) w → Everywhere Fits past ys (walk past xs w)
  fit_back [] ys w a = a
  fit_back (x ∷ xs) ys w a = fit_back xs ys (past x w) a.1

-- Follows w v: what fits below w fits below v
pub record IsWalk (W : Type 0) (Fits : Item → W → Type 0) (past : Item → W → W) (Follows : W → W → Type 0) : Type 0 where
  pub stays : (i : Item) (w v : W) → Follows w v → Fits i w → Fits i v
  pub goes_on : (i : Item) (w v : W) → Follows w v → Fits i w → Follows (past i w) (past i v)

-- if old fits below w, so does new, and the walk goes on below new as it does below old
pub record Replaces (W : Type 0) (Fits : Item → W → Type 0) (past : Item → W → W) (Follows : W → W → Type 0) (old new : List Item) (w : W) : Type 0 where
  pub fit : Everywhere Fits past old w → Everywhere Fits past new w
  pub follows : Everywhere Fits past old w → Follows (walk past old w) (walk past new w)

module _ (W : Type 0) (Fits : Item → W → Type 0) (past : Item → W → W) (Follows : W → W → Type 0) (law : IsWalk W Fits past Follows) where
  pub fit_follows : (xs : List Item) (w v : W) → Follows w v → Everywhere Fits past xs w → Everywhere Fits past xs v
  fit_follows [] w v f h = tt
  fit_follows (x ∷ xs) w v f h = (law.stays x w v f h.0, fit_follows xs (past x w) (past x v) (law.goes_on x w v f h.0) h.1)

  pub walk_follows : (xs : List Item) (w v : W) → Follows w v → Everywhere Fits past xs w → Follows (walk past xs w) (walk past xs v)
  walk_follows [] w v f h = f
  walk_follows (x ∷ xs) w v f h = walk_follows xs (past x w) (past x v) (law.goes_on x w v f h.0) h.1

  pub replaced : (above old new below : List Item) (w : W) → Replaces W Fits past Follows old new (walk past above w) →
      Everywhere Fits past (above ++ (old ++ below)) w → Everywhere Fits past (above ++ (new ++ below)) w
      × Follows (walk past (above ++ (old ++ below)) w) (walk past (above ++ (new ++ below)) w)
  replaced above old new below w r h =
      let v = walk past above w in
      let h1 = fit_back W Fits past above (old ++ below) w h in
      let ha = fit_front W Fits past old below v h1 in
      let hb = fit_back W Fits past old below v h1 in
      let f = r.follows ha in
      let f' : Follows (walk past (above ++ (old ++ below)) w) (walk past (above ++ (new ++ below)) w) =
      rw (walk_append past above (old ++ below), walk_append past above (new ++ below), walk_append past old below, walk_append past new below)
      (walk_follows below (walk past old v) (walk past new v) f hb) in (
        fit_append W Fits past above (new ++ below) w (fit_front W Fits past above _ w h) (fit_append W Fits past new below v (r.fit ha)
            (fit_follows below (walk past old v) (walk past new v) f hb)),
        f',
      )

-- the old item may first be taken for another that the walk does not distinguish from it
pub prefaced : (W : Type 0) (Fits : Item → W → Type 0) (past : Item → W → W) (Follows : W → W → Type 0) (a b : Item) (new : List Item) (w : W) →
    (Fits a w → Fits b w) → past a w ≡ past b w → Replaces W Fits past Follows (b ∷ []) new w → Replaces W Fits past Follows (a ∷ []) new w
prefaced W Fits past Follows a b new w f e r = record {
  fit = λ h. r.fit (f h.0, tt);
  follows = λ h. subst (λ (v : W). Follows v (walk past new w)) (sym e) (r.follows (f h.0, tt));
}
