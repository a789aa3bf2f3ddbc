use Rattle.sig_view.proofs.TextLemmas.{chart_read}
use Rattle.sig_view.proofs.charting.chart_text.Goals as goal

pub returns-clause-text : goal.returns-clause-text
returns-clause-text g c = chart_read _ c.in_ok-given.given.script c.in_ok-given.given.told c.in_ok-origins.origins c.in_ok-given.ensures.settled c.in_ok-origins.ensures.those c.args.window c.draw.result c.draw.ensures
