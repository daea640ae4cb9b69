-- `fits` meets its contract: its tests are the definition's, by the lengths alone.
use borrow.Author.Rules.{rules}
use Rattle.store_structs.proofs.fits.Statement.{statement}
use Rattle.store_structs.proofs.fits.Tie as tie

sizes-requires : tie.Need-sizes-requires
sizes-requires c κs = search rules

returns : tie.Need-returns
returns c = λ m w a k n l. rw (n, k, c.sizes.ensures m a k l)

pub fits_spec : {M : Type 1} → statement M
fits_spec =
    tie.close (tie.spec sizes-requires returns)
