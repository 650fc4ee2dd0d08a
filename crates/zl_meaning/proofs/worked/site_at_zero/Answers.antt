use Rattle.zl_meaning.proofs.Rows.SiteAtZero.{row}
use Rattle.zl_meaning.proofs.worked.site_at_zero.Goals as goal

pub returns : goal.returns
returns c = row
