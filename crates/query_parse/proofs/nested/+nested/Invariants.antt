use Rattle.query_parse.proofs.nested.+nested.Given as goal

-- the bound
abbrev pub decreases-nested_expr : goal.decreases-nested_expr
decreases-nested_expr l = l.left

abbrev pub decreases-nested_select : goal.decreases-nested_select
decreases-nested_select l = l.left

abbrev pub decreases-nested_sources : goal.decreases-nested_sources
decreases-nested_sources l = l.left
