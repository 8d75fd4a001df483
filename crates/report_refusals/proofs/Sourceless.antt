-- A bar that names no register.
use Rattle.std.proofs.Common.{◌≡◌, ◌≢◌, ℕ, [], refl}
use Rattle.cf_bind.specs.declared.moves.Bar.{Bar}
use Rattle.cf_bind.specs.declared.moves.Bar.TheVariants as bar
use Rattle.report_refusals.specs.Bars.{source_text}

pub no_source : (b : Bar) → ((r : ℕ) → b ≢ bar.SourceMissing r) → source_text b ≡ []
no_source (bar.SourceMissing r) other = absurd (other r refl)
no_source b other = refl
