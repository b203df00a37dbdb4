mod MergeCases
