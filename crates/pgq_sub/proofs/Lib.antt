mod SubLists
