mod ItemResults
